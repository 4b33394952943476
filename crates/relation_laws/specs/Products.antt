-- Matrices of residues, row by row, and lists of zeros and ones.
use Rattle.std.specs.Prelude.{ℕ, zero, suc, ◌+◌, ◌*◌, ◌%◌, Bool, ◌&&◌, List, [], ◌∷◌, length, take, drop, ◌==◌}
use Rattle.vectors.specs.Counts.{count}

-- the sum of the products, entry by entry
abbrev pub dot : List ℕ → List ℕ → ℕ
dot [] ys = 0
dot (x ∷ xs) [] = 0
dot (x ∷ xs) (y ∷ ys) = x * y + dot xs ys

-- A·z modulo q, for a matrix of `rows` rows and `columns` columns
abbrev pub product : ℕ → ℕ → ℕ → List ℕ → List ℕ → List ℕ
product q columns zero A z = []
product q columns (suc rows) A z = dot (take columns A) z % q ∷ product q columns rows (drop columns A) z

-- w ones, the rest 0
abbrev pub ones : ℕ → List ℕ → Bool
ones w xs = count 1 xs == w && count 0 xs + count 1 xs == length xs
