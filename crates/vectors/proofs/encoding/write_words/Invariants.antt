use Rattle.std.proofs.Common.{◌≡◌, take}
use Rattle.vectors.specs.Over.{over}
use Rattle.vectors.specs.Words.{bytes}
use Rattle.vectors.proofs.encoding.write_words.Given as goal

abbrev pub invariant-loop-i : goal.invariant-loop-i
invariant-loop-i l = l.out ≡ over l.initial.out l.at (bytes (take l.i l.numbers))
