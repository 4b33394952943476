-- How a message is read: what is wrong with it and where, and the contents of its fields.
use Rattle.std.specs.Prelude.{ℕ, ◌+◌, ◌*◌, cond, List, [], ◌∷◌, map, length, take, drop, Some, None, Option, ◌==◌, nat_lt, slice_index}
use Rattle.refusals.specs.declared.fault.FaultKind.{FaultKind}
use Rattle.refusals.specs.declared.fault.FaultKind.TheVariants.{CutOff, WrongTag, WrongLength, LeftOver}
use Rattle.refusals.specs.declared.fault.Fault.{Fault}

-- what a field must be: its tag, and the length of its content
pub record Slot : Type 0 where
  pub tag : ℕ
  pub size : ℕ

abbrev pub tags : List Slot → List ℕ
tags slots = map (λ slot. slot.tag) slots

-- the length that the field states with which these bytes begin
abbrev pub stated : List ℕ → ℕ
stated bytes = slice_index bytes 1 * 256 + slice_index bytes 2

-- what is wrong with that field: cut off in its head or its content, then another tag, then another length
abbrev pub field_fault : Slot → List ℕ → Option FaultKind
field_fault slot bytes =
    cond (nat_lt (length bytes) (3 + stated bytes)) (Some CutOff)
    (cond (slice_index bytes 0 == slot.tag) (cond (stated bytes == slot.size) None (Some WrongLength)) (Some WrongTag))

-- the place is the field's offset; if there is no fault, the reading goes on
abbrev pub fault_at : ℕ → Option FaultKind → Option Fault → Option Fault
fault_at offset None next = next
fault_at offset (Some kind) next = Some (record { kind = kind; place = offset })

-- field by field from the offset on; behind the last field nothing may be left
abbrev pub reading_fault : List Slot → ℕ → List ℕ → Option Fault
reading_fault [] offset message = cond (nat_lt offset (length message)) (Some (record { kind = LeftOver; place = offset })) None
reading_fault (slot ∷ slots) offset message =
    fault_at offset (field_fault slot (drop offset message)) (reading_fault slots (offset + 3 + slot.size) message)

-- the contents of the fields
abbrev pub contents : List Slot → ℕ → List ℕ → List (List ℕ)
contents [] offset message = []
contents (slot ∷ slots) offset message = take slot.size (drop (offset + 3) message) ∷ contents slots (offset + 3 + slot.size) message

-- where the fields begin
abbrev pub offsets : List Slot → ℕ → List ℕ
offsets [] offset = []
offsets (slot ∷ slots) offset = offset ∷ offsets slots (offset + 3 + slot.size)
