use Rattle.std.proofs.Common.{◌≡◌, ℕ, ◌*◌, ◌<◌, length, get_or, pos}
use Rattle.short_statement.specs.Sums.{signed_place_sum}
use Rattle.short_statement.proofs.sums.gather_entries.Given as goal

abbrev pub invariant-loop-i : goal.invariant-loop-i
invariant-loop-i l = (k : ℕ) → k < l.i → get_or l.out k (pos 0) ≡ signed_place_sum l.q (3 * length l.initial.out) k l.layer_count l.layers
