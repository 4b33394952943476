use Rattle.std.proofs.Common.{◌≡◌, take}
use Rattle.vectors.specs.Over.{over}
use Rattle.vectors.specs.Permutations.{permuted}
use Rattle.vectors.specs.Words.{bytes}
use Rattle.messages.proofs.writer.write_permuted.Given as goal

abbrev pub invariant-loop-i : goal.invariant-loop-i
invariant-loop-i l = l.out ≡ over l.initial.out l.at (bytes (take l.i (permuted l.positions l.values)))
