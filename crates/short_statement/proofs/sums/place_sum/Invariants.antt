use Rattle.std.proofs.Common.{◌≡◌, ◌+◌, ◌-◌, ◌*◌, ◌^◌, ◌≤◌, drop}
use Rattle.short_statement.specs.Sums.{place_sum}
use Rattle.short_statement.proofs.sums.place_sum.Given as goal

abbrev pub invariant-loop-j : goal.invariant-loop-j
invariant-loop-j l =
    (l.sum ≡ place_sum l.layer_len l.i (l.layer_count - l.j) (drop (l.j * l.layer_len) l.layers))
    × (l.sum + 65535 ≤ 65535 * 2 ^ (l.layer_count - l.j))
