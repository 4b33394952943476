use Rattle.std.proofs.Common.{rules}
use Rattle.vectors.specs.Words.{words}
use Rattle.openings.proofs.Positions.{permutations-below}
use Rattle.answer_openings.proofs.Computed.{cause_by_first, cause_by_both}
use Rattle.answer_openings.proofs.long.open_numbers.Goals as goal

pub returns-in_err-check-clause-verdict : goal.returns-in_err-check-clause-verdict
returns-in_err-check-clause-verdict g c =
    let e = cause_by_first (g.R.Relation.meaning c.args.relation.now) (g.S.Scheme.meaning c.args.scheme.now) c.args.lower c.args.upper c.args.kind
    c.args.permutations.now c.args.layers.now c.args.free.now c.requires.permutations_bytes c.commit_with_image.new.out c.commit_with_image.ensures.value _ c.has_value.ensures _ c.check.ensures in
    rw e (search rules)

pub commit_rearranged-requires-clause-positions : goal.commit_rearranged-requires-clause-positions
commit_rearranged-requires-clause-positions g c =
    let relation = g.R.Relation.meaning c.args.relation.now in
    let below_len = permutations-below relation.layer_len relation.layer_count (words c.args.permutations.now) c.requires.permuting in
    search rules

pub returns-clause-verdict : goal.returns-clause-verdict
returns-clause-verdict g c =
    let e = cause_by_both (g.R.Relation.meaning c.args.relation.now) (g.S.Scheme.meaning c.args.scheme.now) c.args.lower c.args.upper c.args.kind
    c.args.permutations.now c.args.layers.now c.args.free.now c.requires.permutations_bytes c.commit_with_image.new.out c.commit_with_image.ensures.value _ c.has_value.ensures _ c.check.ensures
    _ c.commit_with_image.ensures.kept c.layout-layout.result c.layout-layout.ensures c.commit_rearranged.new.out c.commit_rearranged.ensures.value _ c.has_value-2.ensures _ c.check-2.ensures in
    rw e (search rules)
