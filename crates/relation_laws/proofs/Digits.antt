-- Binary digits: how many a bound has, and what the digits from one place on make up.
use Rattle.std.proofs.Common.{◌≡◌, ℕ, zero, suc, ◌-◌, ◌/◌, ◌%◌, ◌^◌, ◌<◌, ◌≤◌, cond, eqb, ℤ, pos, negsuc, ◌+ℤ◌, neg_ℤ, sym, refl, ap, ◌∙◌, ap₂, ⊎_elim, div-one, add-one, arith}
use native.Mathlib.Nat.{div-eq_of_lt, two-pow-succ}
use Rattle.std.proofs.lemmas.Nat.{shr-shr}
use Rattle.std.proofs.lemmas.Int.{ints}
use Rattle.std.proofs.lemmas.Bool.{cases_Bool, cond-true, cond-false, cond_both, eqb-true, eqb-false, eq-eqb, ne_eqb}
use Rattle.std.proofs.lemmas.Bool.Decides.{nat_tests}
use Rattle.vectors.specs.Counts.{count}
use Rattle.relation_laws.specs.Short.{size, digits, digits_among, signed_digit, signed}
use Rattle.relation_laws.proofs.Thirds.{units}

digits_among_le : (places n : ℕ) → digits_among places n ≤ places
digits_among_le zero n = omega arith
digits_among_le (suc places) n =
    ⊎_elim (λ e. rw e (omega arith)) (λ e. rw e (omega (arith, digits_among_le places (n / 2)))) (cases_Bool (eqb n 0))

digits_among_fit : (places n : ℕ) → n < 2 ^ places → n < 2 ^ digits_among places n
digits_among_fit zero n h = h
digits_among_fit (suc places) n h =
    ⊎_elim (λ e. rw e (omega (arith, eqb-true n 0 e)))
    (λ e.
    rw e
    (omega (arith, digits_among_fit places (n / 2) (omega (arith, two-pow-succ places)), two-pow-succ (digits_among places (n / 2)))))
    (cases_Bool (eqb n 0))

pub digits_range : (n : ℕ) → 1 ≤ n → (1 ≤ digits n) × (digits n ≤ 15)
digits_range n h =
    let e = ne_eqb n 0 (λ z. omega arith) in
    (rw e (omega arith), digits_among_le 15 n)

pub digits_fit : (n : ℕ) → n ≤ 32767 → n < 2 ^ digits n
digits_fit n h = digits_among_fit 15 n (omega arith)

-- what is left of a whole number behind its last j binary digits
abbrev pub shifted : ℕ → ℤ → ℤ
shifted j (pos n) = pos (n / 2 ^ j)
shifted j (negsuc n) = neg_ℤ (pos (suc n / 2 ^ j))

pub shifted_zero : (z : ℤ) → shifted 0 z ≡ z
shifted_zero (pos n) = ap pos (div-one n)
shifted_zero (negsuc n) = ap (λ k. neg_ℤ (pos k)) (div-one (suc n))

pub shifted_all : (j : ℕ) (z : ℤ) → size z < 2 ^ j → shifted j z ≡ pos 0
shifted_all j (pos n) h = ap pos (div-eq_of_lt h)
shifted_all j (negsuc n) h = ap (λ k. neg_ℤ (pos k)) (div-eq_of_lt h)

halved : (n j : ℕ) → n / 2 ^ suc j ≡ n / 2 ^ j / 2
halved n j = ap (λ i. n / 2 ^ i) (sym (add-one j)) ∙ sym (shr-shr n j 1)

signed_bit : (q a : ℕ) → 3 ≤ q → signed q (a % 2) ≡ pos (a % 2)
signed_bit q a h = cond-false (eqb (a % 2) (q - 1)) (negsuc 0) (pos (a % 2)) (ne_eqb (a % 2) (q - 1) (λ e. omega arith))

signed-minus_bit : (q a : ℕ) → 3 ≤ q → signed q (cond (eqb (a % 2) 1) (q - 1) 0) ≡ neg_ℤ (pos (a % 2))
signed-minus_bit q a h =
    ⊎_elim
    (λ e.
    ap (signed q) (cond-true (eqb (a % 2) 1) (q - 1) 0 e) ∙ cond-true (eqb (q - 1) (q - 1)) (negsuc 0) (pos (q - 1)) (eq-eqb (q - 1) (q - 1) refl)
    ∙ ap (λ k. neg_ℤ (pos k)) (sym (eqb-true (a % 2) 1 e)))
    (λ e.
    let n = eqb-false (a % 2) 1 e in
    let z : a % 2 ≡ 0 = omega arith in
    ap (signed q) (cond-false (eqb (a % 2) 1) (q - 1) 0 e) ∙ cond-false (eqb 0 (q - 1)) (negsuc 0) (pos 0) (ne_eqb 0 (q - 1) (λ d. omega arith))
    ∙ ap (λ k. neg_ℤ (pos k)) (sym z))
    (cases_Bool (eqb (a % 2) 1))

pos_halves : (a : ℕ) → pos (a % 2) +ℤ (pos (a / 2) +ℤ pos (a / 2)) ≡ pos a
pos_halves a = ap pos (omega arith)

neg_halves : (a : ℕ) → neg_ℤ (pos (a % 2)) +ℤ (neg_ℤ (pos (a / 2)) +ℤ neg_ℤ (pos (a / 2))) ≡ neg_ℤ (pos a)
neg_halves a = omega (arith, ints)

pub shifted_digit : (q j : ℕ) (z : ℤ) → 3 ≤ q → signed q (signed_digit q j z) +ℤ (shifted (suc j) z +ℤ shifted (suc j) z) ≡ shifted j z
shifted_digit q j (pos n) h =
    ap₂ (λ a b. a +ℤ (pos b +ℤ pos b)) (signed_bit q (n / 2 ^ j) h) (halved n j) ∙ pos_halves (n / 2 ^ j)
shifted_digit q j (negsuc n) h =
    ap₂ (λ a b. a +ℤ (neg_ℤ (pos b) +ℤ neg_ℤ (pos b))) (signed-minus_bit q (suc n / 2 ^ j) h) (halved (suc n) j) ∙ neg_halves (suc n / 2 ^ j)

bit_unit : (q x : ℕ) → x < 2 → 0 < count x (units q)
bit_unit q x h = grind (arith, nat_tests)

minus_unit : (q : ℕ) → 0 < count (q - 1) (units q)
minus_unit q = grind (arith, nat_tests)

pub digit_unit : (q j : ℕ) (z : ℤ) → 0 < count (signed_digit q j z) (units q)
digit_unit q j (pos n) = bit_unit q (n / 2 ^ j % 2) (omega arith)
digit_unit q j (negsuc n) =
    cond_both (eqb (suc n / 2 ^ j % 2) 1) (q - 1) 0 (λ x. 0 < count x (units q)) (λ e. minus_unit q) (λ e. bit_unit q 0 (omega arith))
