use Rattle.std.proofs.Common.{◌≡◌, ℕ, ◌<◌, length, get_or}
use Rattle.vectors.proofs.permuting.permute.Given as goal

abbrev pub invariant-loop-i : goal.invariant-loop-i
invariant-loop-i l =
    ((k : ℕ) → k < length l.positions → get_or l.positions k 0 < length l.values)
    × ((k : ℕ) → k < l.i → get_or l.out k 0 ≡ get_or l.values (get_or l.positions k 0) 0)
