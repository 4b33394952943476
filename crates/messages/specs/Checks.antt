-- The checks on a read answer that need no commitment.
use Rattle.std.specs.Prelude.{ℕ, ◌+◌, cond, List, [], ◌∷◌, Some, None, Option, nat_lt}
use Rattle.refusals.specs.declared.cause.Cause.{Cause}
use Rattle.refusals.specs.declared.cause.Cause.TheVariants.{ResidueNotBelowModulus, NoPermutation}
use Rattle.messages.specs.declared.fields.Field.{Field}
use Rattle.messages.specs.declared.fields.Answer.{Answer}
use Rattle.messages.specs.declared.fields.Answer.TheVariants.{First, Second, Third}
use Rattle.vectors.specs.Words.{words}
use Rattle.vectors.specs.Permutations.{permutes}
use Rattle.vectors.specs.Layers.{first_failing}

-- the offset of the first number that is not below q; the numbers begin at the given offset, two bytes each
abbrev pub first_above : ℕ → ℕ → List ℕ → Option ℕ
first_above q offset [] = None
first_above q offset (x ∷ xs) = cond (nat_lt x q) (first_above q (offset + 2) xs) (Some offset)

-- the first layer whose list of positions is no permutation
abbrev pub first_unpermuted : ℕ → ℕ → List ℕ → Option ℕ
first_unpermuted N K positions = first_failing (λ j. permutes N) N 0 K positions

-- the first of two findings
abbrev pub or_else : {A : Type 0} → Option A → Option A → Option A
or_else None second = second
or_else (Some found) second = Some found

-- a field's content begins three bytes behind its offset
abbrev pub field_above : ℕ → Field → Option ℕ
field_above q f = first_above q (f.offset + 3) (words f.content.now)

-- only these fields hold residues
abbrev pub answer_above : ℕ → Answer → Option ℕ
answer_above q (First a b c d) = or_else (field_above q a) (field_above q b)
answer_above q (Second a b c d e) = or_else (field_above q b) (field_above q c)
answer_above q (Third a b c d e) = or_else (field_above q b) (field_above q c)

-- only these fields hold positions
abbrev pub answer_unpermuted : ℕ → ℕ → Answer → Option ℕ
answer_unpermuted N K (First a b c d) = None
answer_unpermuted N K (Second a b c d e) = first_unpermuted N K (words a.content.now)
answer_unpermuted N K (Third a b c d e) = first_unpermuted N K (words a.content.now)

-- 85 with the offset, then 86 with the layer
abbrev pub cause_of : Option ℕ → Option ℕ → Option Cause
cause_of (Some offset) unpermuted = Some (ResidueNotBelowModulus offset)
cause_of None (Some layer) = Some (NoPermutation layer)
cause_of None None = None

abbrev pub answer_cause : ℕ → ℕ → ℕ → Answer → Option Cause
answer_cause q N K answer = cause_of (answer_above q answer) (answer_unpermuted N K answer)
