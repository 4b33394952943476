use Rattle.std.proofs.Common.{◌≡◌, ◌-◌}
use Rattle.vectors.specs.Permutations.{permutes}
use Rattle.vectors.specs.Layers.{first_failing}
use Rattle.vectors.proofs.testing.first_unpermuted.Given as goal

abbrev pub invariant-loop-j : goal.invariant-loop-j
invariant-loop-j l =
    first_failing (λ j. permutes l.layout.layer_len) l.layout.layer_len l.j (l.layout.layer_count - l.j) l.positions
    ≡ first_failing (λ j. permutes l.layout.layer_len) l.layout.layer_len 0 l.layout.layer_count l.positions
