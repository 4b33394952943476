use Rattle.std.proofs.Common.{ℕ, ◌*◌, take, ◌∙◌}
use Rattle.masks.proofs.Sequences.{permutations_more, permutations_none}
use Rattle.masks.proofs.permutations.draw_permutations.Goals as goal

pub returns-in_err-draw_permutation : goal.returns-in_err-draw_permutation
returns-in_err-draw_permutation c =
    let N : ℕ = c.args.layout.layer_len in
    let places = c.places-start.ensures in
    rw c.from_residual.ensures
    (permutations_none N c.args.layout.layer_count c.loop-j.j c.loop-j-test.true c.loop-j.source.left.now
    c.loop-j.positions (c.loop-j.auto.positions ∙ c.requires.whole) _ _ places.start places.end
    (take (c.loop-j.j * N) c.loop-j.positions) _ c.in_err-draw_permutation.ensures c.loop-j.invariant)

pub loop-j-preserved : goal.loop-j-preserved
loop-j-preserved c =
    let places = c.places-start.ensures in
    permutations_more c.args.layout.layer_len c.args.layout.layer_count c.loop-j.j c.loop-j-test.true c.loop-j.source.left.now
    c.loop-j.positions (c.loop-j.auto.positions ∙ c.requires.whole) _ _ places.start places.end
    c.draw_permutation.new.positions c.draw_permutation.new.source.left.now _ c.draw_permutation.auto.positions c.in_ok-draw_permutation.ensures c.loop-j.invariant
