-- The digest of a message of whole bytes: FIPS 180-4, sections 5.1.1, 5.3.3 and 6.2.2.
use Rattle.std.specs.Prelude.{ℕ, zero, suc, ◌-◌, ◌*◌, ◌/◌, ◌%◌, List, [], ◌∷◌, ◌++◌, length, take, drop, replicate}
use Rattle.sha256.specs.Block.{compressed}

-- H^(0): the first 32 bits of the fractional parts of the square roots of the first eight primes
abbrev pub initial : List ℕ
initial =
    0x6a09e667 ∷ 0xbb67ae85 ∷ 0x3c6ef372 ∷ 0xa54ff53a ∷ 0x510e527f ∷ 0x9b05688c ∷ 0x1f83d9ab ∷ 0x5be0cd19 ∷ []

-- the hash value after the first n blocks of 64 bytes
unfoldable pub after_blocks : ℕ → List ℕ → List ℕ → List ℕ
after_blocks zero hash bytes = hash
after_blocks (suc n) hash bytes = after_blocks n (compressed hash (take 64 bytes)) (drop 64 bytes)

-- the hash value after all whole blocks
unfoldable pub chained : List ℕ → List ℕ → List ℕ
chained hash bytes = after_blocks (length bytes / 64) hash bytes

-- a word's bytes, the high byte first
abbrev pub word_bytes : ℕ → List ℕ
word_bytes x = (x / 16777216 % 256) ∷ (x / 65536 % 256) ∷ (x / 256 % 256) ∷ (x % 256) ∷ []

-- the bytes of all words
abbrev pub bytes_of : List ℕ → List ℕ
bytes_of [] = []
bytes_of (x ∷ xs) = word_bytes x ++ bytes_of xs

-- a number as 64 bits, the high byte first
abbrev pub length_bytes : ℕ → List ℕ
length_bytes n =
    (n / 72057594037927936 % 256) ∷ (n / 281474976710656 % 256) ∷ (n / 1099511627776 % 256) ∷ (n / 4294967296 % 256) ∷
    (n / 16777216 % 256) ∷ (n / 65536 % 256) ∷ (n / 256 % 256) ∷ (n % 256) ∷ []

-- k / 8, where k is the smallest number of bits 0 with l + 1 + k = 448 modulo 512, for l = 8 * n
abbrev pub zeros : ℕ → ℕ
zeros n = (119 - n % 64) % 64

-- what follows a message of n bytes: the bit 1, the bits 0, and the number of its bits
unfoldable pub padding : ℕ → List ℕ
padding n = 128 ∷ (replicate (zeros n) 0 ++ length_bytes (8 * n))

-- the message digest
unfoldable pub sha256 : List ℕ → List ℕ
sha256 message = bytes_of (chained initial (message ++ padding (length message)))
