use Rattle.std.proofs.Common.{◌≡◌, ℕ, ◌<◌, get_or}
use Rattle.statements.specs.Products.{entry}
use Rattle.statements.proofs.products.product_is.Given as goal

abbrev pub invariant-loop-i : goal.invariant-loop-i
invariant-loop-i l = (k : ℕ) → k < l.i → get_or l.target k 0 ≡ entry l.q l.columns l.matrix l.vector k
