-- Whole numbers modulo q and their sizes: what both are of a sum.
use Rattle.std.proofs.Common.{◌≡◌, ℕ, suc, ◌+◌, ◌-◌, ◌*◌, ◌/◌, ◌%◌, ◌<◌, ◌≤◌, eqb, ℤ, pos, negsuc, ◌+ℤ◌, sym, refl, ap, ◌∙◌, ap₂, ⊎_elim, mod-lt, mod-eq_of_lt, mul-le-mul_left, div-add-mod', arith}
use native.Mathlib.Nat.{add-mod, mul-add-mod_self_right}
use borrow.Author.Differences.{up, down, sum_is_lem}
use Rattle.std.proofs.lemmas.Int.{ints}
use Rattle.std.proofs.lemmas.Bool.{cases_Bool, cond-true, cond-false, eqb-true}
use Rattle.relation_laws.specs.Short.{size, residue, signed}

size_is : (z : ℤ) → size z ≡ (up z - down z) + (down z - up z)
size_is (pos n) = omega arith
size_is (negsuc n) = omega arith

pub size-add : (y z : ℤ) → size (y +ℤ z) ≤ size y + size z
size-add y z = omega (arith, sum_is_lem y z, size_is (y +ℤ z), size_is y, size_is z)

mod_same : (q a b k l : ℕ) → k * q + a ≡ l * q + b → a % q ≡ b % q
mod_same q a b k l e = sym (mul-add-mod_self_right k q a) ∙ ap (λ n. n % q) e ∙ mul-add-mod_self_right l q b

residue_is : (q : ℕ) (z : ℤ) (k n : ℕ) → 0 < q → z +ℤ pos (k * q) ≡ pos n → residue q z ≡ n % q
residue_is q (pos m) k n h e = mod_same q m n k 0 (omega (arith, ints))
residue_is q (negsuc m) k n h e =
    let d = div-add-mod' (suc m) q in
    let l = mod-lt (suc m) h in
    mod_same q (q - suc m % q) n k (suc m / q + 1) (omega (arith, ints))

-- z plus a multiple of q that makes it a natural number
lifted : ℕ → ℤ → ℕ
lifted q (pos n) = n + n * q
lifted q (negsuc n) = suc n * q - suc n

lifted_is : (q : ℕ) (z : ℤ) → 0 < q → z +ℤ pos (size z * q) ≡ pos (lifted q z)
unfolding lifted
lifted_is q (pos n) h = refl
lifted_is q (negsuc n) h = omega (arith, ints, mul-le-mul_left (suc n) h)

residue_lifted : (q : ℕ) (z : ℤ) → 0 < q → residue q z ≡ lifted q z % q
residue_lifted q z h = residue_is q z (size z) (lifted q z) h (lifted_is q z h)

pub residue-add : (q : ℕ) (y z : ℤ) → 0 < q → residue q (y +ℤ z) ≡ (residue q y + residue q z) % q
residue-add q y z h =
    let ey = lifted_is q y h in
    let ez = lifted_is q z h in
    residue_is q (y +ℤ z) (size y + size z) (lifted q y + lifted q z) h (omega (arith, ints))
    ∙ add-mod (lifted q y) (lifted q z) q
    ∙ ap₂ (λ a b. (a + b) % q) (sym (residue_lifted q y h)) (sym (residue_lifted q z h))

pub residue-signed : (q x : ℕ) → 2 ≤ q → x < q → residue q (signed q x) ≡ x
residue-signed q x h l =
    ⊎_elim
    (λ e.
    let one : 1 % q ≡ 1 = mod-eq_of_lt h in
    let r : (q - 1) % q ≡ q - 1 = mod-eq_of_lt (omega arith) in
    ap (residue q) (cond-true (eqb x (q - 1)) (negsuc 0) (pos x) e) ∙ ap (λ n. (q - n) % q) one ∙ r ∙ sym (eqb-true x (q - 1) e))
    (λ e. ap (residue q) (cond-false (eqb x (q - 1)) (negsuc 0) (pos x) e) ∙ mod-eq_of_lt l)
    (cases_Bool (eqb x (q - 1)))
