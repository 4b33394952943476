use Rattle.std.proofs.Common.{◌≡◌, ◌-◌, ◌*◌, min, take}
use Rattle.sha256.specs.Block.{constants, words, extended, slid, rounds, loaded}
use Rattle.sha256.proofs.block.compress.Given as goal

abbrev pub invariant-loop-group : goal.invariant-loop-group
invariant-loop-group l =
    (l.words ≡ slid (16 * min l.group 3) (words l.block))
    × (l.v ≡ rounds (loaded l.hash) (take (16 * l.group) constants) (extended (16 * (l.group - 1)) (words l.block)))
