-- Whole numbers of a key: their sizes, their residues, and the binary digits of a bound.
use Rattle.std.proofs.Common.{◌≡◌, ℕ, zero, suc, ◌+◌, ◌-◌, ◌*◌, ◌/◌, ◌%◌, ◌^◌, ◌<◌, ◌≤◌, ℤ, pos, negsuc, nat_abs, sym, refl, ap, ◌∙◌, ⊎_elim, mod-lt, mod-eq_of_lt, arith}
use native.Mathlib.Nat.{two-pow-succ, mod_self, mod-add-mod}
use Rattle.std.specs.Int.{int_rem_euclid}
use Rattle.std.proofs.lemmas.Nat.{pow_pos}
use Rattle.std.proofs.lemmas.Bool.{ne_eqb, cases_lt}
use Rattle.relation_laws.specs.Short.{size, residue, digits_among}

pub size_is : (z : ℤ) → size z ≡ nat_abs z
size_is (pos n) = refl
size_is (negsuc n) = refl

suc-mod : (q a : ℕ) → 0 < q → q - 1 - a % q ≡ (q - suc a % q) % q
suc-mod q a h = ⊎_elim within last (cases_lt (a % q + 1) q)
  where
    next : suc a % q ≡ (a % q + 1) % q
    next =
        let e : suc a ≡ a + 1 = omega arith in
        ap (λ n. n % q) e ∙ sym (mod-add-mod a q 1)

    within : a % q + 1 < q → q - 1 - a % q ≡ (q - suc a % q) % q
    within l =
        let e : q - 1 - a % q ≡ q - (a % q + 1) = omega arith in
        let same : (a % q + 1) % q ≡ a % q + 1 = mod-eq_of_lt l in
        let small : (q - (a % q + 1)) % q ≡ q - (a % q + 1) = mod-eq_of_lt (omega arith) in
        e ∙ sym (ap (λ n. (q - n) % q) (next ∙ same) ∙ small)

    last : q ≤ a % q + 1 → q - 1 - a % q ≡ (q - suc a % q) % q
    last l =
        let r = mod-lt a h in
        let e : q - 1 - a % q ≡ 0 = omega arith in
        let full : a % q + 1 ≡ q = omega arith in
        let whole : q - 0 ≡ q = omega arith in
        e ∙ sym (ap (λ n. (q - n) % q) (next ∙ ap (λ n. n % q) full ∙ mod_self q) ∙ ap (λ n. n % q) whole ∙ mod_self q)

pub residue_rem_euclid : (q : ℕ) (z : ℤ) → 0 < q → nat_abs (int_rem_euclid z (pos q)) ≡ residue q z
residue_rem_euclid q (pos n) h = refl
residue_rem_euclid q (negsuc n) h = suc-mod q n h

digits_among_more : (places n : ℕ) → 0 < n → digits_among (suc places) n ≡ suc (digits_among places (n / 2))
digits_among_more places n h = rw (ne_eqb n 0 (λ e. omega arith)) refl

-- the number of binary digits of a number is m if the number is below 2^m and not below the power before
pub digits_from_bounds : (places n m : ℕ) → n < 2 ^ places → n < 2 ^ m → 2 ^ m ≤ 2 * n + 1 → digits_among places n ≡ m
digits_from_bounds zero n zero p l h = refl
digits_from_bounds zero n (suc m) p l h = absurd (omega (arith, two-pow-succ m, pow_pos m))
digits_from_bounds (suc places) n zero p l h =
    let e : n ≡ 0 = omega arith in
    ap (digits_among (suc places)) e
digits_from_bounds (suc places) n (suc m) p l h =
    digits_among_more places n (omega (arith, two-pow-succ m, pow_pos m))
    ∙ ap suc (digits_from_bounds places (n / 2) m (omega (arith, two-pow-succ places)) (omega (arith, two-pow-succ m)) (omega (arith, two-pow-succ m)))
