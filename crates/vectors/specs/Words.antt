-- Numbers of 16 bits as two bytes each, the high byte first.
use Rattle.std.specs.Prelude.{ℕ, ◌+◌, ◌*◌, ◌/◌, ◌%◌, List, [], ◌∷◌}

-- the bytes of numbers
abbrev pub bytes : List ℕ → List ℕ
bytes [] = []
bytes (x ∷ xs) = x / 256 ∷ x % 256 ∷ bytes xs

-- the numbers that bytes hold, two by two
abbrev pub words : List ℕ → List ℕ
words [] = []
words (high ∷ []) = []
words (high ∷ low ∷ rest) = (high * 256 + low) ∷ words rest
