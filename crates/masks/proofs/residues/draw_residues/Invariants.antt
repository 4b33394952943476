use Rattle.std.proofs.Common.{◌≡◌, ◌-◌, length, take}
use Rattle.masks.specs.Draw.{draw_residues}
use Rattle.masks.proofs.Sequences.{ahead}
use Rattle.masks.proofs.residues.draw_residues.Given as goal

abbrev pub invariant-loop-residue : goal.invariant-loop-residue
invariant-loop-residue l =
    ahead (take l.residue-index l.residues) (draw_residues l.q (length l.initial.residues - l.residue-index) l.source.left.now)
    ≡ draw_residues l.q (length l.initial.residues) l.initial.source.left.now
