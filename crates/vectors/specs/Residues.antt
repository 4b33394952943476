-- Lists of residues modulo q: whole numbers from 0 to q - 1.
use Rattle.std.specs.Prelude.{◌≡◌, ℕ, ◌+◌, ◌-◌, ◌%◌, ◌<◌, Bool, true, ◌&&◌, List, [], ◌∷◌, length, nat_lt}
use Rattle.std.specs.List.{AllByRecursion}

-- whether each entry is below q
abbrev pub below : ℕ → List ℕ → Bool
below q [] = true
below q (x ∷ xs) = nat_lt x q && below q xs

-- a list of n residues
abbrev pub Residues : ℕ → ℕ → List ℕ → Type 0
Residues q n xs = (length xs ≡ n) × AllByRecursion (λ x. x < q) xs

-- the sum, entry by entry, modulo q
abbrev pub plus : ℕ → List ℕ → List ℕ → List ℕ
plus q [] ys = []
plus q (x ∷ xs) [] = []
plus q (x ∷ xs) (y ∷ ys) = (x + y) % q ∷ plus q xs ys

-- the difference, entry by entry, modulo q
abbrev pub minus : ℕ → List ℕ → List ℕ → List ℕ
minus q [] ys = []
minus q (x ∷ xs) [] = []
minus q (x ∷ xs) (y ∷ ys) = (x + (q - y)) % q ∷ minus q xs ys
