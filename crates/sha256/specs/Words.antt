-- Operations on words of 32 bits, as numbers below 2^32: FIPS 180-4, sections 2.2.2, 3.2 and 4.1.2.
use Rattle.std.specs.Prelude.{ℕ, ◌+◌, ◌-◌, ◌*◌, ◌/◌, ◌%◌, ◌^◌, ◌<◌, bit_and, bit_or, bit_xor}

-- x + y modulo 2^32
abbrev pub plus : ℕ → ℕ → ℕ
plus x y = (x + y) % 2 ^ 32

-- n moves a bit, and not out of the word
abbrev pub IsShift : ℕ → Type 0
IsShift n = (0 < n) × (n < 32)

-- ROTR^n(x) = (x >> n) ∨ (x << 32 - n)
abbrev pub rotr : ℕ → ℕ → ℕ
rotr n x = bit_or (x / 2 ^ n) ((x * 2 ^ (32 - n)) % 2 ^ 32)

-- SHR^n(x) = x >> n
abbrev pub shr : ℕ → ℕ → ℕ
shr n x = x / 2 ^ n

-- Ch(x, y, z) = (x ∧ y) ⊕ (¬x ∧ z)
abbrev pub ch : ℕ → ℕ → ℕ → ℕ
ch x y z = bit_xor (bit_and x y) (bit_and (2 ^ 32 - 1 - x) z)

-- Maj(x, y, z) = (x ∧ y) ⊕ (x ∧ z) ⊕ (y ∧ z)
abbrev pub maj : ℕ → ℕ → ℕ → ℕ
maj x y z = bit_xor (bit_xor (bit_and x y) (bit_and x z)) (bit_and y z)

-- ROTR^a(x) ⊕ ROTR^b(x) ⊕ ROTR^c(x)
abbrev pub big_sigma : ℕ → ℕ → ℕ → ℕ → ℕ
big_sigma a b c x = bit_xor (bit_xor (rotr a x) (rotr b x)) (rotr c x)

-- ROTR^a(x) ⊕ ROTR^b(x) ⊕ SHR^c(x)
abbrev pub small_sigma : ℕ → ℕ → ℕ → ℕ → ℕ
small_sigma a b c x = bit_xor (bit_xor (rotr a x) (rotr b x)) (shr c x)

-- Σ0(x) = ROTR^2(x) ⊕ ROTR^13(x) ⊕ ROTR^22(x)
abbrev pub big_sigma0 : ℕ → ℕ
big_sigma0 = big_sigma 2 13 22

-- Σ1(x) = ROTR^6(x) ⊕ ROTR^11(x) ⊕ ROTR^25(x)
abbrev pub big_sigma1 : ℕ → ℕ
big_sigma1 = big_sigma 6 11 25

-- σ0(x) = ROTR^7(x) ⊕ ROTR^18(x) ⊕ SHR^3(x)
abbrev pub small_sigma0 : ℕ → ℕ
small_sigma0 = small_sigma 7 18 3

-- σ1(x) = ROTR^17(x) ⊕ ROTR^19(x) ⊕ SHR^10(x)
abbrev pub small_sigma1 : ℕ → ℕ
small_sigma1 = small_sigma 17 19 10
