-- What the two kinds of messages say: the commitments, and the answer to a challenge.
use Rattle.std.specs.Prelude.{◌≡◌, ℕ, ◌*◌, cond, List, [], ◌∷◌, length, Some, None, Option, ◌==◌}
use Rattle.vectors.specs.Words.{bytes, words}
use Rattle.messages.specs.declared.challenge.Challenge.{Challenge}
use Rattle.messages.specs.declared.challenge.Challenge.TheVariants.{One, Two, Three}
use Rattle.messages.specs.declared.fields.Field.{Field}
use Rattle.messages.specs.declared.fields.Commitments.{Commitments}
use Rattle.messages.specs.declared.fields.Triple.{Triple}
use Rattle.messages.specs.declared.fields.Answer.{Answer}
use Rattle.messages.specs.declared.fields.Answer.TheVariants.{First, Second, Third}
use Rattle.messages.specs.declared.fields.Sizes.{Sizes}
use Rattle.messages.specs.Fields.{written}
use Rattle.messages.specs.Reading.{Slot, tags, reading_fault, contents, offsets}

abbrev pub challenge_number : Challenge → ℕ
challenge_number One = 1
challenge_number Two = 2
challenge_number Three = 3

-- the challenge with a number: there is one for 1, 2 and 3 alone
abbrev pub challenge_of : ℕ → Option Challenge
challenge_of n = cond (n == 1) (Some One) (cond (n == 2) (Some Two) (cond (n == 3) (Some Three) None))

-- the fields that a message must have; the sizes are those of contents in bytes
abbrev pub commitment_slots : ℕ → List Slot
commitment_slots width = record { tag = 1; size = width } ∷ record { tag = 2; size = width } ∷ record { tag = 3; size = width } ∷ []

abbrev pub answer_slots : Challenge → Sizes → List Slot
answer_slots One s = record { tag = 11; size = s.layers } ∷ record { tag = 12; size = s.layers } ∷ record { tag = 13; size = s.width } ∷ record { tag = 14; size = s.width } ∷ []
answer_slots Two s = record { tag = 21; size = s.layers } ∷ record { tag = 22; size = s.layers } ∷ record { tag = 23; size = s.free } ∷ record { tag = 24; size = s.width } ∷ record { tag = 25; size = s.width } ∷ []
answer_slots Three s = record { tag = 31; size = s.layers } ∷ record { tag = 32; size = s.layers } ∷ record { tag = 33; size = s.free } ∷ record { tag = 34; size = s.width } ∷ record { tag = 35; size = s.width } ∷ []

-- the fields that a reader hands out, in the order of the message
abbrev pub commitment_fields : Commitments → List Field
commitment_fields c = c.first ∷ c.second ∷ c.third ∷ []

abbrev pub answer_fields : Answer → List Field
answer_fields (First a b c d) = a ∷ b ∷ c ∷ d ∷ []
answer_fields (Second a b c d e) = a ∷ b ∷ c ∷ d ∷ e ∷ []
answer_fields (Third a b c d e) = a ∷ b ∷ c ∷ d ∷ e ∷ []

abbrev pub asked : Answer → Challenge
asked (First a b c d) = One
asked (Second a b c d e) = Two
asked (Third a b c d e) = Three

abbrev pub field_contents : List Field → List (List ℕ)
field_contents [] = []
field_contents (f ∷ fs) = f.content.now ∷ field_contents fs

abbrev pub triple_contents : Triple → List (List ℕ)
triple_contents t = t.one.now ∷ t.two.now ∷ t.three.now ∷ []

abbrev pub field_offsets : List Field → List ℕ
field_offsets [] = []
field_offsets (f ∷ fs) = f.offset ∷ field_offsets fs

-- what an answer says: positions and residues as numbers, coins as bytes
pub data Said : Type 0 where
  -- P(E), P(R), coins 2, coins 3
  to_first : (permuted_key permuted_mask coins_2 coins_3 : List ℕ) → Said
  -- P, R + E, v + s, coins 1, coins 3
  to_second : (permutations masked_key masked_free coins_1 coins_3 : List ℕ) → Said
  -- P, R, v, coins 1, coins 2
  to_third : (permutations mask free coins_1 coins_2 : List ℕ) → Said

abbrev pub said_to : Said → Challenge
said_to (to_first a b c d) = One
said_to (to_second a b c d e) = Two
said_to (to_third a b c d e) = Three

-- positions and residues take two bytes each
abbrev pub said_contents : Said → List (List ℕ)
said_contents (to_first a b c d) = bytes a ∷ bytes b ∷ c ∷ d ∷ []
said_contents (to_second a b c d e) = bytes a ∷ bytes b ∷ bytes c ∷ d ∷ e ∷ []
said_contents (to_third a b c d e) = bytes a ∷ bytes b ∷ bytes c ∷ d ∷ e ∷ []

-- the tags of an answer do not depend on the sizes
abbrev pub answer_tags : Challenge → List ℕ
answer_tags One = 11 ∷ 12 ∷ 13 ∷ 14 ∷ []
answer_tags Two = 21 ∷ 22 ∷ 23 ∷ 24 ∷ 25 ∷ []
answer_tags Three = 31 ∷ 32 ∷ 33 ∷ 34 ∷ 35 ∷ []

-- the writing of an answer, and of three commitments
abbrev pub answer_written : Said → List ℕ
answer_written said = written (answer_tags (said_to said)) (said_contents said)

abbrev pub commitments_written : List ℕ → List ℕ → List ℕ → List ℕ
commitments_written one two three = written (1 ∷ 2 ∷ 3 ∷ []) (one ∷ two ∷ three ∷ [])

-- the lengths of what is said, against sizes in bytes
abbrev pub Fits : Sizes → Said → Type 0
Fits s (to_first a b c d) = (2 * length a ≡ s.layers) × (2 * length b ≡ s.layers) × (length c ≡ s.width) × (length d ≡ s.width)
Fits s (to_second a b c d e) = (2 * length a ≡ s.layers) × (2 * length b ≡ s.layers) × (2 * length c ≡ s.free) × (length d ≡ s.width) × (length e ≡ s.width)
Fits s (to_third a b c d e) = (2 * length a ≡ s.layers) × (2 * length b ≡ s.layers) × (2 * length c ≡ s.free) × (length d ≡ s.width) × (length e ≡ s.width)

-- what the fields of an answer say
abbrev pub said_by : Answer → Said
said_by (First a b c d) = to_first (words a.content.now) (words b.content.now) c.content.now d.content.now
said_by (Second a b c d e) = to_second (words a.content.now) (words b.content.now) (words c.content.now) d.content.now e.content.now
said_by (Third a b c d e) = to_third (words a.content.now) (words b.content.now) (words c.content.now) d.content.now e.content.now

-- what a reader promises of the fields that it hands out
pub record Handed (slots : List Slot) (message : List ℕ) (fields : List Field) : Type 0 where
  pub right : reading_fault slots 0 message ≡ None
  pub contents : field_contents fields ≡ contents slots 0 message
  pub offsets : field_offsets fields ≡ offsets slots 0
  -- the message is the writing of its contents
  pub written : message ≡ written (tags slots) (field_contents fields)
