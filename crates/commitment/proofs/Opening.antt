-- Opening a commitment: comparing it with the value.
use Rattle.std.proofs.Common.{◌≡◌, ℕ, Bool, List, Decides, rules}
use Rattle.std.proofs.lemmas.Slice.Eq.{bytes_eq-Decides}
use Rattle.vectors.specs.Lists.{same}

pub same_decided : (xs ys : List ℕ) (r : Bool) → Decides r (xs ≡ ys) → r ≡ same xs ys
same_decided xs ys r h = search (rules, bytes_eq-Decides)
