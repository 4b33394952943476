-- Rotations, and Ch and Maj by fewer operations than their definitions have.
use Rattle.std.proofs.Common.{◌≡◌, ℕ, zero, suc, ◌-◌, ◌/◌, ◌%◌, ◌^◌, ◌<◌, sym, refl, ◌∙◌, w32, arith}
use native.Mathlib.Nat.{two-pow-succ}
use Rattle.std.specs.Int.{rotate_right}
use lib.Bits.{bit_and, bit_xor, and_shr, and_mod, xor_shr, xor_mod}
use Rattle.sha256.specs.Words.{rotr, ch, maj}

pub rotated : (x n : ℕ) → 0 < n → n < 32 → rotate_right w32 x n ≡ rotr n x
rotated x n h l =
    let e : n % 32 ≡ n = omega arith in
    let f : (32 - n) % 32 ≡ 32 - n = omega arith in
    simp (e, f)

and_half : (a b : ℕ) → bit_and a b / 2 ≡ bit_and (a / 2) (b / 2)
and_half a b = and_shr a b 1

and_odd : (a b : ℕ) → bit_and a b % 2 ≡ bit_and (a % 2) (b % 2)
and_odd a b = and_mod a b 1

xor_half : (a b : ℕ) → bit_xor a b / 2 ≡ bit_xor (a / 2) (b / 2)
xor_half a b = xor_shr a b 1

xor_odd : (a b : ℕ) → bit_xor a b % 2 ≡ bit_xor (a % 2) (b % 2)
xor_odd a b = xor_mod a b 1

by_parts : (a b : ℕ) → a / 2 ≡ b / 2 → a % 2 ≡ b % 2 → a ≡ b
by_parts a b half odd = omega arith

-- what holds of 0 and 1 holds of each bit
each_bit : (P : ℕ → Type 0) → P 0 → P 1 → (b : ℕ) → b < 2 → P b
each_bit P p q zero h = p
each_bit P p q (suc zero) h = q
each_bit P p q (suc (suc b)) h = absurd (omega arith)

last_bits : (P : ℕ → ℕ → ℕ → Type 0) → P 0 0 0 → P 0 0 1 → P 0 1 0 → P 0 1 1 → P 1 0 0 → P 1 0 1 → P 1 1 0 → P 1 1 1 →
    (x y z : ℕ) → P (x % 2) (y % 2) (z % 2)
last_bits P a b c d e f g h x y z =
    let l : x % 2 < 2 = omega arith in
    let m : y % 2 < 2 = omega arith in
    let n : z % 2 < 2 = omega arith in
    each_bit (λ i. P i (y % 2) (z % 2))
    (each_bit (λ j. P 0 j (z % 2)) (each_bit (P 0 0) a b (z % 2) n) (each_bit (P 0 1) c d (z % 2) n) (y % 2) m)
    (each_bit (λ j. P 1 j (z % 2)) (each_bit (P 1 0) e f (z % 2) n) (each_bit (P 1 1) g h (z % 2) n) (y % 2) m)
    (x % 2) l

-- Ch in words of k bits
wide_ch : ℕ → ℕ → ℕ → ℕ → ℕ
wide_ch k x y z = bit_xor (bit_and x y) (bit_and (2 ^ k - 1 - x) z)

wide_ch_half : (k x y z : ℕ) → wide_ch (suc k) x y z / 2 ≡ wide_ch k (x / 2) (y / 2) (z / 2)
unfolding wide_ch
wide_ch_half k x y z =
    let e : (2 ^ suc k - 1 - x) / 2 ≡ 2 ^ k - 1 - x / 2 = omega (arith, two-pow-succ k) in
    simp (xor_half, and_half, e)

wide_ch_odd : (k x y z : ℕ) → x < 2 ^ suc k → wide_ch (suc k) x y z % 2 ≡ wide_ch 1 (x % 2) (y % 2) (z % 2)
unfolding wide_ch
wide_ch_odd k x y z h =
    let e : (2 ^ suc k - 1 - x) % 2 ≡ 1 - x % 2 = omega (arith, two-pow-succ k) in
    simp (xor_odd, and_odd, e)

-- Ch by three operations
quick_ch : ℕ → ℕ → ℕ → ℕ
quick_ch x y z = bit_xor (bit_and (bit_xor y z) x) z

quick_ch_half : (x y z : ℕ) → quick_ch x y z / 2 ≡ quick_ch (x / 2) (y / 2) (z / 2)
unfolding quick_ch
quick_ch_half x y z = simp (xor_half, and_half)

quick_ch_odd : (x y z : ℕ) → quick_ch x y z % 2 ≡ quick_ch (x % 2) (y % 2) (z % 2)
unfolding quick_ch
quick_ch_odd x y z = simp (xor_odd, and_odd)

ch_bits : (x y z : ℕ) → quick_ch (x % 2) (y % 2) (z % 2) ≡ wide_ch 1 (x % 2) (y % 2) (z % 2)
unfolding quick_ch wide_ch
ch_bits = last_bits (λ x y z. quick_ch x y z ≡ wide_ch 1 x y z) refl refl refl refl refl refl refl refl

ch_wide : (k x y z : ℕ) → x < 2 ^ k → y < 2 ^ k → z < 2 ^ k → quick_ch x y z ≡ wide_ch k x y z
unfolding quick_ch wide_ch
ch_wide zero x y z p q r =
    let a : x ≡ 0 = omega arith in
    let b : y ≡ 0 = omega arith in
    let c : z ≡ 0 = omega arith in
    simp (a, b, c)
ch_wide (suc k) x y z p q r =
    let t = two-pow-succ k in
    by_parts (quick_ch x y z) (wide_ch (suc k) x y z)
    (quick_ch_half x y z ∙ ch_wide k (x / 2) (y / 2) (z / 2) (omega arith) (omega arith) (omega arith) ∙ sym (wide_ch_half k x y z))
    (quick_ch_odd x y z ∙ ch_bits x y z ∙ sym (wide_ch_odd k x y z p))

pub ch_is : (x y z : ℕ) → x < 2 ^ 32 → y < 2 ^ 32 → z < 2 ^ 32 → bit_xor (bit_and (bit_xor y z) x) z ≡ ch x y z
unfolding quick_ch wide_ch
ch_is = ch_wide 32

-- Maj by four operations
quick_maj : ℕ → ℕ → ℕ → ℕ
quick_maj x y z = bit_xor y (bit_and (bit_xor x y) (bit_xor y z))

quick_maj_half : (x y z : ℕ) → quick_maj x y z / 2 ≡ quick_maj (x / 2) (y / 2) (z / 2)
unfolding quick_maj
quick_maj_half x y z = simp (xor_half, and_half)

quick_maj_odd : (x y z : ℕ) → quick_maj x y z % 2 ≡ quick_maj (x % 2) (y % 2) (z % 2)
unfolding quick_maj
quick_maj_odd x y z = simp (xor_odd, and_odd)

maj_half : (x y z : ℕ) → maj x y z / 2 ≡ maj (x / 2) (y / 2) (z / 2)
maj_half x y z = simp (xor_half, and_half)

maj_odd : (x y z : ℕ) → maj x y z % 2 ≡ maj (x % 2) (y % 2) (z % 2)
maj_odd x y z = simp (xor_odd, and_odd)

maj_bits : (x y z : ℕ) → quick_maj (x % 2) (y % 2) (z % 2) ≡ maj (x % 2) (y % 2) (z % 2)
unfolding quick_maj
maj_bits = last_bits (λ x y z. quick_maj x y z ≡ maj x y z) refl refl refl refl refl refl refl refl

maj_wide : (k x y z : ℕ) → x < 2 ^ k → y < 2 ^ k → z < 2 ^ k → quick_maj x y z ≡ maj x y z
unfolding quick_maj
maj_wide zero x y z p q r =
    let a : x ≡ 0 = omega arith in
    let b : y ≡ 0 = omega arith in
    let c : z ≡ 0 = omega arith in
    simp (a, b, c)
maj_wide (suc k) x y z p q r =
    let t = two-pow-succ k in
    by_parts (quick_maj x y z) (maj x y z)
    (quick_maj_half x y z ∙ maj_wide k (x / 2) (y / 2) (z / 2) (omega arith) (omega arith) (omega arith) ∙ sym (maj_half x y z))
    (quick_maj_odd x y z ∙ maj_bits x y z ∙ sym (maj_odd x y z))

pub maj_is : (x y z : ℕ) → x < 2 ^ 32 → y < 2 ^ 32 → z < 2 ^ 32 → bit_xor y (bit_and (bit_xor x y) (bit_xor y z)) ≡ maj x y z
unfolding quick_maj
maj_is = maj_wide 32
