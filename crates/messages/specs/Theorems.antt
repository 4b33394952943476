-- Reading and writing undo each other.
use Rattle.std.specs.Prelude.{◌≡◌, ℕ, ◌*◌, ◌<◌, List, map, length, None}
use Rattle.std.specs.List.{AllByRecursion}
use Rattle.messages.specs.declared.challenge.Challenge.{Challenge}
use Rattle.messages.specs.declared.fields.Sizes.{Sizes}
use Rattle.messages.specs.Fields.{written}
use Rattle.messages.specs.Reading.{Slot, tags, reading_fault, contents}
use Rattle.messages.specs.Contents.{Said, said_to, said_contents, answer_written, answer_slots, Fits}

-- the contents have the sizes of their slots
abbrev pub Sized : List Slot → List (List ℕ) → Type 0
Sized slots parts = map (λ part. length part) parts ≡ map (λ slot. slot.size) slots

-- two bytes hold each length
abbrev pub Short : List Slot → Type 0
Short slots = AllByRecursion (λ slot. slot.size < 65536) slots

-- reading what was written gives the contents back
abbrev pub ReadsBack : Type 0
ReadsBack = (slots : List Slot) (parts : List (List ℕ)) → Short slots → Sized slots parts → (reading_fault slots 0 (written (tags slots) parts) ≡ None) × (contents slots 0 (written (tags slots) parts) ≡ parts)

-- every message that reads without a fault is the writing of its contents, which have the right sizes
abbrev pub WrittenSo : Type 0
WrittenSo = (slots : List Slot) (message : List ℕ) → AllByRecursion (λ b. b < 256) message → reading_fault slots 0 message ≡ None → (message ≡ written (tags slots) (contents slots 0 message)) × Sized slots (contents slots 0 message)

-- the same of answers: the writing of an answer is read without a fault, and every message that is read so is the writing of one answer of the right sizes
pub record AnswersRead (challenge : Challenge) (sizes : Sizes) : Type 0 where
  pub reads : (said : Said) → said_to said ≡ challenge → Fits sizes said → Short (answer_slots challenge sizes) → (reading_fault (answer_slots challenge sizes) 0 (answer_written said) ≡ None) × (contents (answer_slots challenge sizes) 0 (answer_written said) ≡ said_contents said)
  pub is_written : (message : List ℕ) (layer_entries free_entries : ℕ) → AllByRecursion (λ b. b < 256) message → sizes.layers ≡ 2 * layer_entries → sizes.free ≡ 2 * free_entries → reading_fault (answer_slots challenge sizes) 0 message ≡ None → (said : Said) × (said_to said ≡ challenge) × Fits sizes said × (answer_written said ≡ message)
