use Rattle.std.proofs.Common.{◌≡◌}
use Rattle.commitment.proofs.Feeding.{Underway}
use Rattle.commitment.proofs.message.feed_parts.Given as goal

abbrev pub invariant-loop-part : goal.invariant-loop-part
invariant-loop-part g l =
    (g.S.Scheme.meaning l.scheme ≡ g.S.Scheme.meaning l.initial.scheme)
    × Underway (g.S.Scheme.state l.initial.scheme) l.parts l.part-index (g.S.Scheme.state l.scheme)
