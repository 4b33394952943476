use Rattle.std.proofs.Common.{ℕ, sym, ◌∙◌}
use Rattle.vectors.specs.Permutations.{permutes}
use Rattle.vectors.specs.Words.{words}
use Rattle.vectors.proofs.Failing.{first_failing_more, first_failing_here}
use Rattle.answer_checks.proofs.Words.{permutes_words}
use Rattle.answer_checks.proofs.first_unpermuted.Goals as goal

pub returns-then-not-is_permutation : goal.returns-then-not-is_permutation
returns-then-not-is_permutation c =
    let N : ℕ = c.args.layout.layer_len in
    let places = c.places-start.ensures in
    let test = c.if-not-is_permutation.ensures ∙ permutes_words N c.args.layout.layer_count c.loop-layer.layer _ _ c.args.content.now _ places.start places.end c.requires.0 c.loop-layer-test.true c.read_words.ensures in
    sym (first_failing_here (λ j. permutes N) N (words c.args.content.now) c.loop-layer.layer c.args.layout.layer_count c.loop-layer-test.true (sym test)) ∙ c.loop-layer.invariant

pub loop-layer-preserved : goal.loop-layer-preserved
loop-layer-preserved c =
    let N : ℕ = c.args.layout.layer_len in
    let places = c.places-start.ensures in
    let test = c.if-not-is_permutation.ensures ∙ permutes_words N c.args.layout.layer_count c.loop-layer.layer _ _ c.args.content.now _ places.start places.end c.requires.0 c.loop-layer-test.true c.read_words.ensures in
    first_failing_more (λ j. permutes N) N (words c.args.content.now) c.loop-layer.layer c.args.layout.layer_count c.loop-layer-test.true (sym test) ∙ c.loop-layer.invariant
