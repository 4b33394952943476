-- What the checks ask of an answer; every answer that the reader hands out has it.
use Rattle.std.specs.Prelude.{◌≡◌, ℕ, ◌+◌, ◌*◌, ◌^◌, ◌<◌, length}
use Rattle.messages.specs.declared.fields.Field.{Field}
use Rattle.messages.specs.declared.fields.Answer.{Answer}
use Rattle.messages.specs.declared.fields.Answer.TheVariants.{First, Second, Third}

-- 64 bits hold each offset in a field
abbrev pub Placeable : Field → Type 0
Placeable f = f.offset + 3 + length f.content.now < 2 ^ 64

-- the same of the fields that hold residues
abbrev pub ResiduesPlaceable : Answer → Type 0
ResiduesPlaceable (First a b c d) = Placeable a × Placeable b
ResiduesPlaceable (Second a b c d e) = Placeable b × Placeable c
ResiduesPlaceable (Third a b c d e) = Placeable b × Placeable c

-- the field that holds positions holds K lists of N
abbrev pub PositionsSized : ℕ → ℕ → Answer → Type 0
PositionsSized N K (First a b c d) = Unit {0}
PositionsSized N K (Second a b c d e) = length a.content.now ≡ 2 * (K * N)
PositionsSized N K (Third a b c d e) = length a.content.now ≡ 2 * (K * N)
