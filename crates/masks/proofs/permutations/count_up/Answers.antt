use Rattle.std.proofs.Common.{length, ◌∙◌, arith}
use Rattle.std.proofs.lemmas.List.FromFn.{fill_by_all}
use Rattle.std.proofs.lemmas.List.{map-id}
use Rattle.masks.proofs.permutations.count_up.Goals as goal

pub returns : goal.returns
returns c =
    fill_by_all (λ i. i) c.loop-i.positions (length c.args.positions.now) 0 (omega arith) (λ k h. c.loop-i.invariant k (omega arith)) ∙ map-id _
