-- The hash value after one block of 64 bytes: FIPS 180-4, sections 4.2.2 and 6.2.2.
use Rattle.std.specs.Prelude.{ℕ, zero, suc, ◌+◌, ◌-◌, ◌*◌, List, [], ◌∷◌, ◌++◌, length, drop, slice_index}
use Rattle.sha256.specs.Words.{plus, ch, maj, big_sigma0, big_sigma1, small_sigma0, small_sigma1}
use Rattle.sha256.specs.declared.round.Working.{Working}

-- K_0 to K_63: the first 32 bits of the fractional parts of the cube roots of the first 64 primes
unfoldable pub constants : List ℕ
constants =
    0x428a2f98 ∷ 0x71374491 ∷ 0xb5c0fbcf ∷ 0xe9b5dba5 ∷ 0x3956c25b ∷ 0x59f111f1 ∷ 0x923f82a4 ∷ 0xab1c5ed5 ∷
    0xd807aa98 ∷ 0x12835b01 ∷ 0x243185be ∷ 0x550c7dc3 ∷ 0x72be5d74 ∷ 0x80deb1fe ∷ 0x9bdc06a7 ∷ 0xc19bf174 ∷
    0xe49b69c1 ∷ 0xefbe4786 ∷ 0x0fc19dc6 ∷ 0x240ca1cc ∷ 0x2de92c6f ∷ 0x4a7484aa ∷ 0x5cb0a9dc ∷ 0x76f988da ∷
    0x983e5152 ∷ 0xa831c66d ∷ 0xb00327c8 ∷ 0xbf597fc7 ∷ 0xc6e00bf3 ∷ 0xd5a79147 ∷ 0x06ca6351 ∷ 0x14292967 ∷
    0x27b70a85 ∷ 0x2e1b2138 ∷ 0x4d2c6dfc ∷ 0x53380d13 ∷ 0x650a7354 ∷ 0x766a0abb ∷ 0x81c2c92e ∷ 0x92722c85 ∷
    0xa2bfe8a1 ∷ 0xa81a664b ∷ 0xc24b8b70 ∷ 0xc76c51a3 ∷ 0xd192e819 ∷ 0xd6990624 ∷ 0xf40e3585 ∷ 0x106aa070 ∷
    0x19a4c116 ∷ 0x1e376c08 ∷ 0x2748774c ∷ 0x34b0bcb5 ∷ 0x391c0cb3 ∷ 0x4ed8aa4a ∷ 0x5b9cca4f ∷ 0x682e6ff3 ∷
    0x748f82ee ∷ 0x78a5636f ∷ 0x84c87814 ∷ 0x8cc70208 ∷ 0x90befffa ∷ 0xa4506ceb ∷ 0xbef9a3f7 ∷ 0xc67178f2 ∷ []

-- the bytes as words, the high byte of each first
abbrev pub words : List ℕ → List ℕ
words [] = []
words (a ∷ []) = []
words (a ∷ b ∷ []) = []
words (a ∷ b ∷ c ∷ []) = []
words (a ∷ b ∷ c ∷ d ∷ rest) = (a * 16777216 + b * 65536 + c * 256 + d) ∷ words rest

-- W_t = σ1(W_t-2) + W_t-7 + σ0(W_t-15) + W_t-16
abbrev pub next_word : ℕ → ℕ → ℕ → ℕ → ℕ
next_word w2 w7 w15 w16 = plus (plus (plus (small_sigma1 w2) w7) (small_sigma0 w15)) w16

-- the word that follows these
unfoldable pub next : List ℕ → ℕ
next ws =
    next_word (slice_index ws (length ws - 2)) (slice_index ws (length ws - 7)) (slice_index ws (length ws - 15)) (slice_index ws (length ws - 16))

-- the words, and the next n after them
unfoldable pub extended : ℕ → List ℕ → List ℕ
extended zero ws = ws
extended (suc n) ws = extended n (ws ++ next ws ∷ [])

-- W_0 to W_63: the sixteen words of the block, and 48 more
unfoldable pub schedule : List ℕ → List ℕ
schedule block = extended 48 (words block)

-- as many words of the schedule, which begin n words later
unfoldable pub slid : ℕ → List ℕ → List ℕ
slid n ws = drop n (extended n ws)

-- T_1 = h + Σ1(e) + Ch(e, f, g) + K_t + W_t
abbrev pub first_sum : Working → ℕ → ℕ → ℕ
first_sum v k w = plus (plus (plus (plus v.h (big_sigma1 v.e)) (ch v.e v.f v.g)) k) w

-- T_2 = Σ0(a) + Maj(a, b, c)
abbrev pub second_sum : Working → ℕ
second_sum v = plus (big_sigma0 v.a) (maj v.a v.b v.c)

-- the working variables after one more round
unfoldable pub round : Working → ℕ → ℕ → Working
round v k w = record {
  a = plus (first_sum v k w) (second_sum v);
  b = v.a;
  c = v.b;
  d = v.c;
  e = plus v.d (first_sum v k w);
  f = v.e;
  g = v.f;
  h = v.g;
}

-- a round for each constant and word
abbrev pub rounds : Working → List ℕ → List ℕ → Working
rounds v [] ws = v
rounds v (k ∷ ks) [] = v
rounds v (k ∷ ks) (w ∷ ws) = rounds (round v k w) ks ws

-- the working variables, from the hash value
abbrev pub loaded : List ℕ → Working
loaded hash = record {
  a = slice_index hash 0;
  b = slice_index hash 1;
  c = slice_index hash 2;
  d = slice_index hash 3;
  e = slice_index hash 4;
  f = slice_index hash 5;
  g = slice_index hash 6;
  h = slice_index hash 7;
}

-- the hash value with each working variable added to its word
abbrev pub added : List ℕ → Working → List ℕ
added hash v =
    plus (slice_index hash 0) v.a ∷ plus (slice_index hash 1) v.b ∷ plus (slice_index hash 2) v.c ∷ plus (slice_index hash 3) v.d ∷
    plus (slice_index hash 4) v.e ∷ plus (slice_index hash 5) v.f ∷ plus (slice_index hash 6) v.g ∷ plus (slice_index hash 7) v.h ∷ []

-- the hash value after the block
unfoldable pub compressed : List ℕ → List ℕ → List ℕ
compressed hash block = added hash (rounds (loaded hash) constants (schedule block))
