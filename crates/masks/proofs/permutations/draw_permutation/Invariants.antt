use Rattle.std.proofs.Common.{◌≡◌, ◌-◌, length}
use Rattle.masks.specs.Draw.{draw_exchanges, draw_permutation}
use Rattle.masks.proofs.permutations.draw_permutation.Given as goal

abbrev pub invariant-loop-i : goal.invariant-loop-i
invariant-loop-i l =
    draw_exchanges (l.i - 1) l.positions l.source.left.now
    ≡ draw_permutation (length l.initial.positions) l.initial.source.left.now
