use Rattle.std.proofs.Common.{◌≡◌, length, Some, None, sym, refl, ap, ◌∙◌, subst, rules}
use Rattle.commitment.specs.Meaning.{Fresh}
use Rattle.exchange.specs.Told.{state_of}
use Rattle.exchange.proofs.Judged.{outcome}
use Rattle.exchange.proofs.exchange.Exchange.judge.Goals as goal

pub returns-in-Some : goal.returns-in-Some
returns-in-Some g c =
    let side = c.args.self.now in
    let s = state_of side c.args.records.now c.args.bytes.now in
    let scheme = g.S.Scheme.meaning side.scheme in
    let fresh = Fresh scheme (g.S.Scheme.state c.judge_row-verdict.new.scheme) in
    let same = c.judge_row-verdict.new.scheme ≡ side.scheme in
    let told = c.judge_row-verdict.ensures in
    let o = outcome (g.R.Relation.meaning side.relation) scheme s c.args.line c.args.message.now (length c.args.work.now) c.in_ok-challenge.challenge fresh same
    c.judge_row-verdict.result (Some c.in-Some.cause) c.in_ok-challenge.ensures told.outcome c.in-Some.is in
    record {
      ends = (ap (λ p. p.0) (sym o.step), ap (λ p. p.1) (sym o.step));
      decides = o.decides;
      kept = refl;
      meaning = told.kept;
      scheme = o.leaves;
      zeroed = search rules;
    }

pub returns : goal.returns
returns g c =
    let side = c.args.self.now in
    let s = state_of side c.args.records.now c.args.bytes.now in
    let scheme = g.S.Scheme.meaning side.scheme in
    let fresh = Fresh scheme (g.S.Scheme.state c.judge_row-verdict.new.scheme) in
    let same = c.judge_row-verdict.new.scheme ≡ side.scheme in
    let told = c.judge_row-verdict.ensures in
    let kept = c.append.ensures.kept in
    let o = outcome (g.R.Relation.meaning side.relation) scheme s c.args.line c.args.message.now (length c.args.work.now) c.in_ok-challenge.challenge fresh same
    c.judge_row-verdict.result None c.in_ok-challenge.ensures told.outcome c.in_default.is in
    record {
      ends = (ap (λ p. p.0) (sym o.step), c.append.ensures.grown ∙ ap (λ p. p.1) (sym o.step));
      decides = o.decides;
      kept = kept.relation;
      meaning = ap g.S.Scheme.meaning kept.scheme ∙ told.kept;
      scheme = subst (λ z. Fresh scheme (g.S.Scheme.state z)) (sym kept.scheme) o.leaves;
      zeroed = search rules;
    }
