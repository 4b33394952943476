use Rattle.std.proofs.Common.{◌≡◌, ◌-◌}
use Rattle.vectors.specs.Layers.{first_failing}
use Rattle.vectors.specs.Permutations.{permutes}
use Rattle.vectors.specs.Words.{words}
use Rattle.answer_checks.proofs.first_unpermuted.Given as goal

abbrev pub invariant-loop-layer : goal.invariant-loop-layer
invariant-loop-layer l =
    first_failing (λ j. permutes l.layout.layer_len) l.layout.layer_len l.layer (l.layout.layer_count - l.layer) (words l.content)
    ≡ first_failing (λ j. permutes l.layout.layer_len) l.layout.layer_len 0 l.layout.layer_count (words l.content)
