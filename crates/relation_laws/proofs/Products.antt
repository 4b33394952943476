-- A matrix times a list of residues: what it is of a sum, and that it is residues.
use Rattle.std.proofs.Common.{◌≡◌, ℕ, zero, suc, ◌+◌, ◌*◌, ◌%◌, ◌<◌, List, [], ◌∷◌, length, take, drop, sym, refl, ap, ◌∙◌, ap₂, mod-lt, arith}
use native.Mathlib.Nat.{add-mod}
use Rattle.vectors.specs.Residues.{Residues, plus}
use Rattle.relation_laws.specs.Products.{dot, product}
use Rattle.relation_laws.proofs.Sums.{mul-mod-mod}

pub dot-plus : (q : ℕ) (row xs ys : List ℕ) → length xs ≡ length ys → dot row (plus q xs ys) % q ≡ (dot row xs + dot row ys) % q
dot-plus q [] xs ys e = refl
dot-plus q (a ∷ row) [] [] e = refl
dot-plus q (a ∷ row) [] (y ∷ ys) e = absurd (omega arith)
dot-plus q (a ∷ row) (x ∷ xs) [] e = absurd (omega arith)
dot-plus q (a ∷ row) (x ∷ xs) (y ∷ ys) e =
    add-mod (a * ((x + y) % q)) (dot row (plus q xs ys)) q
    ∙ ap₂ (λ s t. (s + t) % q) (mul-mod-mod a (x + y) q) (dot-plus q row xs ys (omega arith))
    ∙ sym (add-mod (a * (x + y)) (dot row xs + dot row ys) q)
    ∙ ap (λ n. n % q) (sorted (dot row xs) (dot row ys))
  where
    sorted : (c d : ℕ) → a * (x + y) + (c + d) ≡ a * x + c + (a * y + d)
    sorted c d = omega arith

pub product-plus : (q columns rows : ℕ) (A xs ys : List ℕ) → length xs ≡ length ys
    → product q columns rows A (plus q xs ys) ≡ plus q (product q columns rows A xs) (product q columns rows A ys)
product-plus q columns zero A xs ys e = refl
product-plus q columns (suc rows) A xs ys e =
    ap₂ (λ a b. a ∷ b) (dot-plus q (take columns A) xs ys e ∙ add-mod (dot (take columns A) xs) (dot (take columns A) ys) q)
    (product-plus q columns rows (drop columns A) xs ys e)

pub product_residues : (q columns rows : ℕ) (A xs : List ℕ) → 0 < q → Residues q rows (product q columns rows A xs)
product_residues q columns zero A xs z = (refl, tt)
product_residues q columns (suc rows) A xs z =
    let rest : Residues q rows (product q columns rows (drop columns A) xs) = product_residues q columns rows (drop columns A) xs z in
    (ap suc rest.0, (mod-lt (dot (take columns A) xs) z, rest.1))
