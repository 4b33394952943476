use Rattle.std.proofs.Common.{◌≡◌, ℕ, ◌*◌, ◌%◌, ◌<◌, length, get_or}
use Rattle.short_statement.specs.Sums.{place_sum}
use Rattle.short_statement.proofs.sums.combine.Given as goal

abbrev pub invariant-loop-i : goal.invariant-loop-i
invariant-loop-i l = (k : ℕ) → k < l.i → get_or l.out k 0 ≡ place_sum (3 * length l.initial.out) k l.layer_count l.layers % l.q
