use Rattle.std.proofs.Common.{◌≡◌, ℕ, ◌<◌, true, false, length, get_or}
use Rattle.vectors.proofs.testing.is_permutation.Given as goal

abbrev pub invariant-loop-position : goal.invariant-loop-position
invariant-loop-position l =
    (length l.seen ≡ 768)
    × ((k : ℕ) → k < l.position-index → (get_or l.positions k 0 < length l.positions) × (get_or l.seen (get_or l.positions k 0) false ≡ true))
    × ((i j : ℕ) → i < j → j < l.position-index → get_or l.positions i 0 ≡ get_or l.positions j 0 → ⊥)
    × ((k : ℕ) → get_or l.seen k false ≡ true → (i : ℕ) × (i < l.position-index) × (get_or l.positions i 0 ≡ k))
