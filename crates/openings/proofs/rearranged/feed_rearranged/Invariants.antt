use Rattle.std.proofs.Common.{◌≡◌}
use Rattle.openings.specs.Shown.{numbers_in}
use Rattle.openings.proofs.Rows.{LayersFed}
use Rattle.openings.proofs.rearranged.feed_rearranged.Given as goal

abbrev pub invariant-loop-j : goal.invariant-loop-j
invariant-loop-j g l =
    (g.S.Scheme.meaning l.scheme ≡ g.S.Scheme.meaning l.initial.scheme)
    × LayersFed l.layout.layer_len l.layout.layer_count (numbers_in l.permutations) l.layers (g.S.Scheme.state l.initial.scheme) l.j (g.S.Scheme.state l.scheme)
