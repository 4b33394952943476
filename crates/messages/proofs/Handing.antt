-- What follows from the promise of a reader: the lengths of the contents, and that the fields lie within the message.
use Rattle.std.proofs.Common.{◌≡◌, ℕ, ◌+◌, ◌≤◌, List, [], ◌∷◌, map, length, drop, None, ap, ◌∙◌, arith}
use Rattle.std.specs.List.{AllByRecursion}
use Rattle.std.proofs.lemmas.List.{length-drop, length-take-le}
use Rattle.messages.specs.declared.fields.Field.{Field}
use Rattle.messages.specs.Reading.{Slot, field_fault, reading_fault, contents, offsets}
use Rattle.messages.specs.Contents.{field_contents, field_offsets, Handed}
use Rattle.messages.specs.Theorems.{Sized}
use Rattle.messages.proofs.OneField.{within-message}
use Rattle.messages.proofs.RoundTrip.{both_none, contents_sized}

pub handed_sized : (slots : List Slot) (message : List ℕ) (fs : List Field) → Handed slots message fs → Sized slots (field_contents fs)
handed_sized slots message fs h = ap (map (λ part. length part)) h.contents ∙ contents_sized slots 0 message h.right

-- a field ends within the message
abbrev Within : List ℕ → Field → Type 0
Within message f = f.offset + 3 + length f.content.now ≤ length message

fields_within : (slots : List Slot) (at : ℕ) (message : List ℕ) (fs : List Field) → reading_fault slots at message ≡ None → field_contents fs ≡ contents slots at message → field_offsets fs ≡ offsets slots at → AllByRecursion (Within message) fs
fields_within slots at message [] r c o = tt
fields_within [] at message (f ∷ fs) r c o = absurd (let z : ◌≡◌ {A = ℕ} 0 1 = cc in omega arith)
fields_within (slot ∷ slots) at message (f ∷ fs) r c o =
    let right = both_none at (field_fault slot (drop at message)) (reading_fault slots (at + 3 + slot.size) message) r in
    let w = within-message slot at message right.0 in
    let n = length-take-le slot.size (drop (at + 3) message) (omega (arith, length-drop (at + 3) message)) in
    let p : f.offset ≡ at = cc in
    let q : length f.content.now ≡ slot.size = cc in
    (omega arith, fields_within slots (at + 3 + slot.size) message fs right.1 (cc) (cc))

pub handed_within : (slots : List Slot) (message : List ℕ) (fs : List Field) → Handed slots message fs → AllByRecursion (λ f. f.offset + 3 + length f.content.now ≤ length message) fs
handed_within slots message fs h = fields_within slots 0 message fs h.right h.contents h.offsets
