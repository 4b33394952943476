use Rattle.std.proofs.Common.{◌≡◌, length, ap, ◌∙◌}
use Rattle.commitment.specs.Meaning.{Fresh}
use Rattle.moves.proofs.Findings.{none_or_else}
use Rattle.openings.proofs.Never.{answers}
use Rattle.exchange_steps.specs.State.{commitments_in}
use Rattle.exchange.proofs.Judged.{row_parts, row_judged}
use Rattle.exchange.proofs.exchange.judge_row.Goals as goal

pub unwrap-requires : goal.unwrap-requires
unwrap-requires g c = answers _ c.judge-judged.result _ _ c.judge-judged.ensures.outcome (none_or_else _ _ c.requires.limit c.requires.room)

pub returns : goal.returns
returns g c =
    let a = c.args in
    let scheme = g.S.Scheme.meaning a.scheme.now in
    let told = c.judge-judged.ensures in
    let parts = row_parts c.width-width.result a.row.now ∙ ap (λ w. commitments_in w a.row.now) c.width-width.ensures in
    record {
      outcome = row_judged (g.R.Relation.meaning a.relation.now) scheme a.row.now _ a.challenge a.message.now (length a.work.now) (Fresh scheme (g.S.Scheme.state c.judge-judged.new.scheme))
          (c.judge-judged.new.scheme ≡ a.scheme.now) c.judge-judged.result c.unwrap.result c.err.result parts c.unwrap.ensures c.err.ensures.value told.outcome told.decides;
      kept = told.kept;
    }
