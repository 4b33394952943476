use Rattle.std.proofs.Common.{◌≡◌, ◌-◌, ◌*◌, take}
use Rattle.masks.specs.Draw.{draw_permutations}
use Rattle.masks.proofs.Sequences.{ahead}
use Rattle.masks.proofs.permutations.draw_permutations.Given as goal

abbrev pub invariant-loop-j : goal.invariant-loop-j
invariant-loop-j l =
    ahead (take (l.j * l.layout.layer_len) l.positions) (draw_permutations l.layout.layer_len (l.layout.layer_count - l.j) l.source.left.now)
    ≡ draw_permutations l.layout.layer_len l.layout.layer_count l.initial.source.left.now
