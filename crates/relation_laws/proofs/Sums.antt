-- Sums modulo q: products of a sum, and sums of sums.
use Rattle.std.proofs.Common.{◌≡◌, ℕ, ◌+◌, ◌*◌, ◌/◌, ◌%◌, List, [], ◌∷◌, sym, refl, ap, ◌∙◌, ap₂, arith}
use native.Mathlib.Nat.{add-mod, mul-add-mod_self_right, div-add-mod}
use Rattle.vectors.specs.Residues.{plus}
use Rattle.vectors.proofs.Sums.{plus_comm}

pub mul-mod-mod : (x y q : ℕ) → x * (y % q) % q ≡ x * y % q
mul-mod-mod x y q =
    let d : q * (y / q) + y % q ≡ y = div-add-mod y q in
    let e : x * (y / q) * q + x * (y % q) ≡ x * (q * (y / q) + y % q) = omega arith in
    sym (mul-add-mod_self_right (x * (y / q)) q (x * (y % q))) ∙ ap (λ n. n % q) (e ∙ ap (λ n. x * n) d)

add-add-mod : (q a b c d : ℕ) → ((a + b) % q + (c + d) % q) % q ≡ ((a + c) % q + (b + d) % q) % q
add-add-mod q a b c d =
    let e : a + b + (c + d) ≡ a + c + (b + d) = omega arith in
    sym (add-mod (a + b) (c + d) q) ∙ ap (λ n. n % q) e ∙ add-mod (a + c) (b + d) q

plus_nil : (q : ℕ) (xs : List ℕ) → plus q xs [] ≡ []
plus_nil q xs = plus_comm q xs []

pub plus-plus : (q : ℕ) (ws xs ys zs : List ℕ) → plus q (plus q ws xs) (plus q ys zs) ≡ plus q (plus q ws ys) (plus q xs zs)
plus-plus q [] xs ys zs = refl
plus-plus q (w ∷ ws) [] ys zs = sym (plus_nil q (plus q (w ∷ ws) ys))
plus-plus q (w ∷ ws) (x ∷ xs) [] zs = refl
plus-plus q (w ∷ ws) (x ∷ xs) (y ∷ ys) [] = refl
plus-plus q (w ∷ ws) (x ∷ xs) (y ∷ ys) (z ∷ zs) = ap₂ (λ a b. a ∷ b) (add-add-mod q w x y z) (plus-plus q ws xs ys zs)
