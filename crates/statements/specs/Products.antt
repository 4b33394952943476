-- The entries of a product.
use Rattle.std.specs.Prelude.{ℕ, ◌*◌, ◌%◌, List, take, drop}
use Rattle.relation_laws.specs.Products.{dot}

-- entry i of A·z modulo q, for a matrix of `columns` columns
abbrev pub entry : (q columns : ℕ) → List ℕ → List ℕ → ℕ → ℕ
entry q columns A z i = dot (take columns (drop (i * columns) A)) z % q
