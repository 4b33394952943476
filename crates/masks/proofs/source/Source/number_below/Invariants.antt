use Rattle.std.proofs.Common.{◌≡◌, length}
use Rattle.masks.specs.Draw.{draw_below}
use Rattle.masks.proofs.source.Source.number_below.Given as goal

abbrev pub invariant-words : goal.invariant-words
invariant-words l = draw_below l.bound l.self.left.now ≡ draw_below l.bound l.initial.self.left.now

abbrev pub decreases-words : goal.decreases-words
decreases-words l = length l.self.left.now
