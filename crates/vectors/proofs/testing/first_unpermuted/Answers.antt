use Rattle.std.proofs.Common.{ℕ, sym, ◌∙◌}
use Rattle.vectors.specs.Permutations.{permutes}
use Rattle.vectors.proofs.Failing.{permutes_row, first_failing_more, first_failing_here}
use Rattle.vectors.proofs.testing.first_unpermuted.Goals as goal

pub returns-then-not-is_permutation : goal.returns-then-not-is_permutation
returns-then-not-is_permutation c =
    let N : ℕ = c.args.layout.layer_len in
    let places = c.places-start.ensures in
    let test = c.if-not-is_permutation.ensures ∙ permutes_row N c.args.layout.layer_count c.loop-j.j _ _ c.args.positions.now places.start places.end c.requires.0 c.loop-j-test.true in
    sym (first_failing_here (λ j. permutes N) N c.args.positions.now c.loop-j.j c.args.layout.layer_count c.loop-j-test.true (sym test)) ∙ c.loop-j.invariant

pub loop-j-preserved : goal.loop-j-preserved
loop-j-preserved c =
    let N : ℕ = c.args.layout.layer_len in
    let places = c.places-start.ensures in
    let test = c.if-not-is_permutation.ensures ∙ permutes_row N c.args.layout.layer_count c.loop-j.j _ _ c.args.positions.now places.start places.end c.requires.0 c.loop-j-test.true in
    first_failing_more (λ j. permutes N) N c.args.positions.now c.loop-j.j c.args.layout.layer_count c.loop-j-test.true (sym test) ∙ c.loop-j.invariant
