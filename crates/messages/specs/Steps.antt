-- What the steps of the reader promise.
use Rattle.std.specs.Prelude.{◌≡◌, ℕ, ◌+◌, ◌<◌, List, [], ◌∷◌, length, take, drop, Some, None, slice_index_or}
use Rattle.std.specs.List.{between}
use Rattle.refusals.specs.declared.fault.Fault.{Fault}
use Rattle.messages.specs.declared.fields.Field.{Field}
use Rattle.messages.specs.declared.fields.LongAnswer.{LongAnswer}
use Rattle.messages.specs.declared.fields.Sizes.{Sizes}
use Rattle.messages.specs.Reading.{Slot, field_fault}

-- the field that these bytes begin with is right, and is handed out with its offset
pub record Taken (slot : Slot) (at : ℕ) (bytes : List ℕ) (f : Field) : Type 0 where
  pub right : field_fault slot bytes ≡ None
  pub content : f.content.now ≡ take slot.size (between 3 (length bytes) bytes)
  pub offset : f.offset ≡ at
  -- the length's low byte is a byte, so that tag and content say what the bytes are
  pub low : slice_index_or bytes 2 0 < 256

-- the field that these bytes begin with is wrong
pub record Wrong (slot : Slot) (at : ℕ) (bytes : List ℕ) (fault : Fault) : Type 0 where
  pub kind : field_fault slot bytes ≡ Some fault.kind
  pub place : fault.place ≡ at

-- a reader that stood at `before` took the next field of the message, and stands behind it
pub record Next (slot : Slot) (message : List ℕ) (before : ℕ) (message_after : List ℕ) (after : ℕ) (f : Field) : Type 0 where
  pub taken : Taken slot before (drop before message) f
  pub offset : after ≡ before + 3 + slot.size
  pub same : message_after ≡ message

-- the fields of an answer to challenge 2 or 3, whose tags begin with the given one
abbrev pub long_slots : ℕ → Sizes → List Slot
long_slots tag s =
    record { tag = tag; size = s.layers } ∷ record { tag = tag + 1; size = s.layers } ∷ record { tag = tag + 2; size = s.free }
    ∷ record { tag = tag + 3; size = s.width } ∷ record { tag = tag + 4; size = s.width } ∷ []

abbrev pub long_fields : LongAnswer → List Field
long_fields a = a.permutations ∷ a.layers ∷ a.free ∷ a.lower_coins ∷ a.upper_coins ∷ []
