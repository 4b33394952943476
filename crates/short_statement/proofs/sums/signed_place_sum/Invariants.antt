use Rattle.std.proofs.Common.{◌≡◌, ◌+◌, ◌-◌, ◌*◌, ◌^◌, ◌≤◌, drop}
use Rattle.relation_laws.specs.Short.{size}
use Rattle.short_statement.specs.Sums.{signed_place_sum}
use Rattle.short_statement.proofs.sums.signed_place_sum.Given as goal

abbrev pub invariant-loop-j : goal.invariant-loop-j
invariant-loop-j l =
    (l.sum ≡ signed_place_sum l.q l.layer_len l.i (l.layer_count - l.j) (drop (l.j * l.layer_len) l.layers))
    × (size l.sum + 65535 ≤ 65535 * 2 ^ (l.layer_count - l.j))
