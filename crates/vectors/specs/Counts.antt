-- How often numbers stand in a list, and rearrangements.
use Rattle.std.specs.Prelude.{◌≡◌, ℕ, ◌+◌, cond, List, [], ◌∷◌, ◌==◌}

-- the sum of f over a list
abbrev pub total : (ℕ → ℕ) → List ℕ → ℕ
total f [] = 0
total f (x ∷ xs) = f x + total f xs

-- how often x stands in a list
abbrev pub count : ℕ → List ℕ → ℕ
count x xs = total (λ y. cond (x == y) 1 0) xs

-- each number stands equally often in both lists
abbrev pub Rearranged : List ℕ → List ℕ → Type 0
Rearranged xs ys = (x : ℕ) → count x xs ≡ count x ys
