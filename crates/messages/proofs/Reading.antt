-- Fields that were read one after another make up the message.
use Rattle.std.proofs.Common.{◌≡◌, ℕ, ◌+◌, ◌≤◌, List, [], ◌∷◌, ◌++◌, length, take, drop, Some, None, subst, sym, refl, ap, ◌∙◌, arith}
use Rattle.std.proofs.lemmas.List.{drop_all, drop-drop, take_rest}
use Rattle.std.proofs.lemmas.Bool.Decides.{nat_tests}
use Rattle.refusals.specs.declared.fault.Fault.{Fault}
use Rattle.messages.specs.declared.fields.Field.{Field}
use Rattle.messages.specs.Fields.{field, written}
use Rattle.messages.specs.Reading.{Slot, tags, fault_at, reading_fault, contents, offsets}
use Rattle.messages.specs.Contents.{field_contents, field_offsets, Handed}
use Rattle.messages.specs.Steps.{Taken, Wrong, Next}
use Rattle.messages.proofs.OneField.{right-written}

-- the fields from an offset on were read, and nothing is left behind them
abbrev pub Read : List Slot → ℕ → List ℕ → List Field → Type 0
Read [] at message [] = length message ≤ at
Read [] at message (f ∷ fs) = ⊥
Read (slot ∷ slots) at message [] = ⊥
Read (slot ∷ slots) at message (f ∷ fs) = Taken slot at (drop at message) f × Read slots (at + 3 + slot.size) message fs

module _ (slot : Slot) (at : ℕ) (message : List ℕ) (f : Field) (h : Taken slot at (drop at message) f) where
  taken_content : f.content.now ≡ take slot.size (drop (at + 3) message)
  taken_content = h.content ∙ ap (take slot.size) (take_rest (drop at message) 3 ∙ drop-drop 3 at message)

  taken_written : drop at message ≡ field slot.tag f.content.now ++ drop (at + 3 + slot.size) message
  taken_written =
      let n : at + (3 + slot.size) ≡ at + 3 + slot.size = omega arith in
      let e : f.content.now ≡ take slot.size (drop 3 (drop at message)) = taken_content ∙ ap (take slot.size) (sym (drop-drop 3 at message)) in
      let d : drop (3 + slot.size) (drop at message) ≡ drop (at + 3 + slot.size) message = drop-drop (3 + slot.size) at message ∙ ap (λ k. drop k message) n in
      let w = right-written slot (drop at message) h.right h.low in
      cc

-- the same, and a fault from an offset on, as records, from which antt finds the arguments
pub record Handing (slots : List Slot) (at : ℕ) (message : List ℕ) (fs : List Field) : Type 0 where
  pub read : Read slots at message fs

pub record Faulty (slots : List Slot) (at : ℕ) (message : List ℕ) (fault : Fault) : Type 0 where
  pub is : reading_fault slots at message ≡ Some fault

pub fault_is : (slots : List Slot) {at : ℕ} {message : List ℕ} {fault : Fault} → Faulty slots at message fault → reading_fault slots at message ≡ Some fault
fault_is slots f = f.is

pub none_left : {at : ℕ} {message : List ℕ} → length message ≤ at → Handing [] at message []
none_left h = record { read = h }

-- the next field is wrong
pub wrong_here : {slot : Slot} {slots : List Slot} {at : ℕ} {message : List ℕ} {fault : Fault} → Wrong slot at (drop at message) fault → Faulty (slot ∷ slots) at message fault
wrong_here {slot} {slots} {at} {message} {fault} w = record {
  is = ap (λ kind. fault_at at kind (reading_fault slots (at + 3 + slot.size) message)) w.kind ∙ ap (λ place. Some (record { kind = fault.kind; place = place })) (sym w.place);
}

-- the next field was read, and what lies behind it
module _ {slot : Slot} {slots : List Slot} {at next : ℕ} {message same : List ℕ} {f : Field} (h : Next slot message at same next f) where
  pub then_read : {fs : List Field} → Handing slots next same fs → Handing (slot ∷ slots) at message (f ∷ fs)
  then_read {fs} r = record { read = (h.taken, subst (λ n. Read slots n message fs) h.offset (subst (λ xs. Read slots next xs fs) h.same r.read)) }

  pub then_wrong : {fault : Fault} → Faulty slots next same fault → Faulty (slot ∷ slots) at message fault
  then_wrong {fault} e = record {
    is =
        ap (λ kind. fault_at at kind (reading_fault slots (at + 3 + slot.size) message)) h.taken.right
        ∙ subst (λ n. reading_fault slots n message ≡ Some fault) h.offset (subst (λ xs. reading_fault slots next xs ≡ Some fault) h.same e.is);
  }

read_right : (slots : List Slot) (at : ℕ) (message : List ℕ) (fs : List Field) → Read slots at message fs → reading_fault slots at message ≡ None
read_right [] at message [] h = grind (arith, nat_tests)
read_right [] at message (f ∷ fs) h = absurd h
read_right (slot ∷ slots) at message [] h = absurd h
read_right (slot ∷ slots) at message (f ∷ fs) (t, h) =
    ap (λ kind. fault_at at kind (reading_fault slots (at + 3 + slot.size) message)) t.right ∙ read_right slots (at + 3 + slot.size) message fs h

read_contents : (slots : List Slot) (at : ℕ) (message : List ℕ) (fs : List Field) → Read slots at message fs → field_contents fs ≡ contents slots at message
read_contents [] at message [] h = refl
read_contents [] at message (f ∷ fs) h = absurd h
read_contents (slot ∷ slots) at message [] h = absurd h
read_contents (slot ∷ slots) at message (f ∷ fs) (t, h) =
    let first = taken_content slot at message f t in
    let others = read_contents slots (at + 3 + slot.size) message fs h in
    cc

read_offsets : (slots : List Slot) (at : ℕ) (message : List ℕ) (fs : List Field) → Read slots at message fs → field_offsets fs ≡ offsets slots at
read_offsets [] at message [] h = refl
read_offsets [] at message (f ∷ fs) h = absurd h
read_offsets (slot ∷ slots) at message [] h = absurd h
read_offsets (slot ∷ slots) at message (f ∷ fs) (t, h) =
    let first = t.offset in
    let others = read_offsets slots (at + 3 + slot.size) message fs h in
    cc

read_written : (slots : List Slot) (at : ℕ) (message : List ℕ) (fs : List Field) → Read slots at message fs → drop at message ≡ written (tags slots) (field_contents fs)
read_written [] at message [] h = drop_all at message h
read_written [] at message (f ∷ fs) h = absurd h
read_written (slot ∷ slots) at message [] h = absurd h
read_written (slot ∷ slots) at message (f ∷ fs) (t, h) =
    taken_written slot at message f t ∙ ap (λ z. field slot.tag f.content.now ++ z) (read_written slots (at + 3 + slot.size) message fs h)

pub handed : (slots : List Slot) (message : List ℕ) (fs : List Field) → Handing slots 0 message fs → Handed slots message fs
handed slots message fs h = record {
  right = read_right slots 0 message fs h.read;
  contents = read_contents slots 0 message fs h.read;
  offsets = read_offsets slots 0 message fs h.read;
  written = read_written slots 0 message fs h.read;
}
