-- Exchanging two places of a list leaves a rearrangement of it.
use Rattle.std.proofs.Common.{◌≡◌, ℕ, ◌+◌, ◌<◌, cond, eqb, List, [], ◌∷◌, length, sum_by, sym, refl, ap, ◌∙◌, arith}
use Rattle.std.specs.List.{swap}
use Rattle.std.proofs.lemmas.List.Sorted.{IsPermutation-swap, sum_by-IsPermutation}
use Rattle.std.proofs.lemmas.List.Sums.{sum_by-cons}
use Rattle.vectors.specs.Counts.{total, Rearranged}
use Rattle.vectors.specs.Permutations.{Permutation}
use Rattle.vectors.proofs.Counts.{permutation_length}

total-sum_by : (f : ℕ → ℕ) (xs : List ℕ) → total f xs ≡ sum_by f xs
total-sum_by f [] = refl
total-sum_by f (x ∷ xs) = ap (λ n. f x + n) (total-sum_by f xs) ∙ sym (sum_by-cons f x xs)

total_exchanged : (f : ℕ → ℕ) (xs : List ℕ) (a b : ℕ) → a < length xs → b < length xs → total f (swap xs a b) ≡ total f xs
total_exchanged f xs a b l u =
    total-sum_by f (swap xs a b) ∙ sum_by-IsPermutation f xs (swap xs a b) (IsPermutation-swap xs (swap xs a b) a b l u refl) ∙ sym (total-sum_by f xs)

pub exchanged_rearranged : (xs : List ℕ) (a b : ℕ) → a < length xs → b < length xs → Rearranged (swap xs a b) xs
exchanged_rearranged xs a b l u x = total_exchanged (λ y. cond (eqb x y) 1 0) xs a b l u

pub permutation_exchanged : (N : ℕ) (p : List ℕ) (a b : ℕ) → a < N → b < N → Permutation N p → Permutation N (swap p a b)
permutation_exchanged N p a b l u h x =
    let e = permutation_length N p h in
    exchanged_rearranged p a b (omega arith) (omega arith) x ∙ h x
