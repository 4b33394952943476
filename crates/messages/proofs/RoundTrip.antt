-- Reading what was written, and writing what was read.
use Rattle.std.proofs.Common.{◌≡◌, ℕ, ◌+◌, ◌*◌, ◌<◌, List, [], ◌∷◌, ◌++◌, length, get_or, take, drop, Some, None, Option, sym, refl, ap, ◌∙◌, subst, arith}
use Rattle.std.specs.List.{AllByRecursion}
use Rattle.std.proofs.ByRecursion.{All-take, All-drop}
use Rattle.std.proofs.lemmas.List.{append_assoc, append-nil, length-append, length-drop, length-take-le, drop_all, drop_at, drop-drop, take_at, get_or-drop}
use Rattle.std.proofs.lemmas.Bool.Decides.{nat_tests}
use Rattle.refusals.specs.declared.fault.Fault.{Fault}
use Rattle.refusals.specs.declared.fault.FaultKind.{FaultKind}
use Rattle.vectors.specs.Words.{bytes, words}
use Rattle.vectors.proofs.Residues.{get_or-residue}
use Rattle.vectors.proofs.Words.{length_bytes, length-words, bytes-words}
use Rattle.messages.specs.declared.challenge.Challenge.{Challenge}
use Rattle.messages.specs.declared.challenge.Challenge.TheVariants.{One, Two, Three}
use Rattle.messages.specs.declared.fields.Sizes.{Sizes}
use Rattle.messages.specs.Fields.{field, written}
use Rattle.messages.specs.Reading.{Slot, tags, field_fault, fault_at, reading_fault, contents}
use Rattle.messages.specs.Contents.{Said, to_first, to_second, to_third, said_to, said_contents, answer_tags, answer_written, answer_slots, Fits}
use Rattle.messages.specs.Theorems.{Sized, Short, ReadsBack, WrittenSo, AnswersRead}
use Rattle.messages.proofs.OneField.{right-field, right-written, within-message}

-- sizes of a first part and of the others
sized_parts : (slot : Slot) (slots : List Slot) (part : List ℕ) (parts : List (List ℕ)) → Sized (slot ∷ slots) (part ∷ parts) → (length part ≡ slot.size) × Sized slots parts
sized_parts slot slots part parts e = (cc, cc)

written-right : (slot : Slot) (part rest : List ℕ) → length part ≡ slot.size → slot.size < 65536 → field_fault slot (field slot.tag part ++ rest) ≡ None
written-right slot part rest e s =
    let n = length-append part rest in
    right-field slot (field slot.tag part ++ rest) (omega arith) refl (omega arith)

-- the fields begin behind other bytes
reads_from : (slots : List Slot) (parts : List (List ℕ)) (pre : List ℕ) (at : ℕ) → length pre ≡ at → Short slots → Sized slots parts
    → (reading_fault slots at (pre ++ written (tags slots) parts) ≡ None) × (contents slots at (pre ++ written (tags slots) parts) ≡ parts)
reads_from [] [] pre at n s e = (let k = ap length (append-nil pre) in grind (arith, nat_tests), refl)
reads_from [] (part ∷ parts) pre at n s e = absurd (let z : ◌≡◌ {A = ℕ} 0 1 = cc in omega arith)
reads_from (slot ∷ slots) [] pre at n s e = absurd (let z : ◌≡◌ {A = ℕ} 0 1 = cc in omega arith)
reads_from (slot ∷ slots) (part ∷ parts) pre at n (s, ss) e =
    let both = sized_parts slot slots part parts e in
    let rest : List ℕ = written (tags slots) parts in
    let first : List ℕ = field slot.tag part in
    let message : List ℕ = pre ++ (first ++ rest) in
    let m : length (pre ++ first) ≡ at + 3 + slot.size = omega (arith, length-append pre first, both.0) in
    let others = reads_from slots parts (pre ++ first) (at + 3 + slot.size) m ss both.1 in
    let a : (pre ++ first) ++ rest ≡ message = append_assoc pre first rest in
    let d : drop at message ≡ first ++ rest = drop_at pre (first ++ rest) at n in
    let c : drop (at + 3) message ≡ part ++ rest = sym (drop-drop 3 at message) ∙ ap (drop 3) d in
    let t : take slot.size (part ++ rest) ≡ part = take_at part rest slot.size both.0 in
    let right : field_fault slot (drop at message) ≡ None = ap (field_fault slot) d ∙ written-right slot part rest both.0 s in
    let none : reading_fault slots (at + 3 + slot.size) message ≡ None = ap (reading_fault slots (at + 3 + slot.size)) (sym a) ∙ others.0 in
    let same : contents slots (at + 3 + slot.size) message ≡ parts = ap (contents slots (at + 3 + slot.size)) (sym a) ∙ others.1 in
    (ap (λ kind. fault_at at kind (reading_fault slots (at + 3 + slot.size) message)) right ∙ none, cc)

pub reads_back : ReadsBack
reads_back slots parts s e = reads_from slots parts [] 0 refl s e

-- neither this field nor what follows is wrong
pub both_none : (at : ℕ) (kind : Option FaultKind) (next : Option Fault) → fault_at at kind next ≡ None → (kind ≡ None) × (next ≡ None)
both_none at None next e = (refl, e)
both_none at (Some kind) next e = absurd (let z : ◌≡◌ {A = ℕ} 0 1 = cc in omega arith)

-- without a fault the contents have the sizes of their slots
pub contents_sized : (slots : List Slot) (at : ℕ) (message : List ℕ) → reading_fault slots at message ≡ None → Sized slots (contents slots at message)
contents_sized [] at message e = refl
contents_sized (slot ∷ slots) at message e =
    let h = both_none at (field_fault slot (drop at message)) (reading_fault slots (at + 3 + slot.size) message) e in
    let w = within-message slot at message h.0 in
    let n = length-take-le slot.size (drop (at + 3) message) (omega (arith, length-drop (at + 3) message)) in
    let others = contents_sized slots (at + 3 + slot.size) message h.1 in
    cc

written_from : (slots : List Slot) (at : ℕ) (message : List ℕ) → AllByRecursion (λ b. b < 256) message → reading_fault slots at message ≡ None → drop at message ≡ written (tags slots) (contents slots at message)
written_from [] at message b e = drop_all at message (grind (arith, nat_tests))
written_from (slot ∷ slots) at message b e =
    let h = both_none at (field_fault slot (drop at message)) (reading_fault slots (at + 3 + slot.size) message) e in
    let low : get_or (drop at message) 2 0 < 256 = omega (arith, get_or-drop at message 2 0, get_or-residue 256 message (at + 2) (omega arith) b) in
    let f = right-written slot (drop at message) h.0 low in
    let c = drop-drop 3 at message in
    let n : at + (3 + slot.size) ≡ at + 3 + slot.size = omega arith in
    let r = drop-drop (3 + slot.size) at message ∙ ap (λ k. drop k message) n in
    let others = written_from slots (at + 3 + slot.size) message b h.1 in
    cc

pub written_so : WrittenSo
written_so slots message b e = (written_from slots 0 message b e, contents_sized slots 0 message e)

-- what was said in two bytes each
entries : (n size : ℕ) (part : List ℕ) → size ≡ 2 * n → length part ≡ size → AllByRecursion (λ b. b < 256) part → (bytes (words part) ≡ part) × (2 * length (words part) ≡ size)
entries n size part e l b = (bytes-words n part (l ∙ e) b, omega (arith, length-words n part (l ∙ e)))

-- lists of bytes
abbrev Bytes : List (List ℕ) → Type 0
Bytes parts = AllByRecursion (λ part. AllByRecursion (λ b. b < 256) part) parts

contents-bytes : (slots : List Slot) (at : ℕ) (message : List ℕ) → AllByRecursion (λ b. b < 256) message → Bytes (contents slots at message)
contents-bytes [] at message b = tt
contents-bytes (slot ∷ slots) at message b =
    (All-take (λ b. b < 256) slot.size (drop (at + 3) message) (All-drop (λ b. b < 256) (at + 3) message b), contents-bytes slots (at + 3 + slot.size) message b)

-- the writing of an answer is read without a fault
said_reads : (sizes : Sizes) (said : Said) → Fits sizes said → Short (answer_slots (said_to said) sizes)
    → (reading_fault (answer_slots (said_to said) sizes) 0 (answer_written said) ≡ None) × (contents (answer_slots (said_to said) sizes) 0 (answer_written said) ≡ said_contents said)
said_reads sizes (to_first a b c d) (ha, hb, hc, hd) s =
    let ea = length_bytes a ∙ ha in
    let eb = length_bytes b ∙ hb in
    reads_back (answer_slots One sizes) (bytes a ∷ bytes b ∷ c ∷ d ∷ []) s (cc)
said_reads sizes (to_second a b c d e) (ha, hb, hc, hd, he) s =
    let ea = length_bytes a ∙ ha in
    let eb = length_bytes b ∙ hb in
    let ec = length_bytes c ∙ hc in
    reads_back (answer_slots Two sizes) (bytes a ∷ bytes b ∷ bytes c ∷ d ∷ e ∷ []) s (cc)
said_reads sizes (to_third a b c d e) (ha, hb, hc, hd, he) s =
    let ea = length_bytes a ∙ ha in
    let eb = length_bytes b ∙ hb in
    let ec = length_bytes c ∙ hc in
    reads_back (answer_slots Three sizes) (bytes a ∷ bytes b ∷ bytes c ∷ d ∷ e ∷ []) s (cc)

-- an answer whose writing is the message
abbrev WritingOf : Challenge → Sizes → List ℕ → Type 0
WritingOf challenge sizes message = (said : Said) × (said_to said ≡ challenge) × Fits sizes said × (answer_written said ≡ message)

-- contents that have the right sizes are those of an answer
module _ (sizes : Sizes) (n k : ℕ) (en : sizes.layers ≡ 2 * n) (ek : sizes.free ≡ 2 * k) where
  first_said : (a b c d : List ℕ) → Bytes (a ∷ b ∷ c ∷ d ∷ []) → Sized (answer_slots One sizes) (a ∷ b ∷ c ∷ d ∷ []) → WritingOf One sizes (written (answer_tags One) (a ∷ b ∷ c ∷ d ∷ []))
  first_said a b c d h s =
      let pa = entries n sizes.layers a en (cc) h.0 in
      let pb = entries n sizes.layers b en (cc) h.1.0 in
      (to_first (words a) (words b) c d, refl, (pa.1, pb.1, (cc), (cc)), (cc (pa.0, pb.0)))

  second_said : (a b c d e : List ℕ) → Bytes (a ∷ b ∷ c ∷ d ∷ e ∷ []) → Sized (answer_slots Two sizes) (a ∷ b ∷ c ∷ d ∷ e ∷ []) → WritingOf Two sizes (written (answer_tags Two) (a ∷ b ∷ c ∷ d ∷ e ∷ []))
  second_said a b c d e h s =
      let pa = entries n sizes.layers a en (cc) h.0 in
      let pb = entries n sizes.layers b en (cc) h.1.0 in
      let pc = entries k sizes.free c ek (cc) h.1.1.0 in
      (to_second (words a) (words b) (words c) d e, refl, (pa.1, pb.1, pc.1, (cc), (cc)), (cc (pa.0, pb.0, pc.0)))

  third_said : (a b c d e : List ℕ) → Bytes (a ∷ b ∷ c ∷ d ∷ e ∷ []) → Sized (answer_slots Three sizes) (a ∷ b ∷ c ∷ d ∷ e ∷ []) → WritingOf Three sizes (written (answer_tags Three) (a ∷ b ∷ c ∷ d ∷ e ∷ []))
  third_said a b c d e h s =
      let pa = entries n sizes.layers a en (cc) h.0 in
      let pb = entries n sizes.layers b en (cc) h.1.0 in
      let pc = entries k sizes.free c ek (cc) h.1.1.0 in
      (to_third (words a) (words b) (words c) d e, refl, (pa.1, pb.1, pc.1, (cc), (cc)), (cc (pa.0, pb.0, pc.0)))

  contents_said : (message : List ℕ) (challenge : Challenge) → Bytes (contents (answer_slots challenge sizes) 0 message) → Sized (answer_slots challenge sizes) (contents (answer_slots challenge sizes) 0 message)
      → WritingOf challenge sizes (written (tags (answer_slots challenge sizes)) (contents (answer_slots challenge sizes) 0 message))
  contents_said message One h s = first_said _ _ _ _ h s
  contents_said message Two h s = second_said _ _ _ _ _ h s
  contents_said message Three h s = third_said _ _ _ _ _ h s

  message_said : (message : List ℕ) (challenge : Challenge) → AllByRecursion (λ b. b < 256) message → reading_fault (answer_slots challenge sizes) 0 message ≡ None → WritingOf challenge sizes message
  message_said message challenge b e =
      let w = written_so (answer_slots challenge sizes) message b e in
      subst (WritingOf challenge sizes) (sym w.0) (contents_said message challenge (contents-bytes (answer_slots challenge sizes) 0 message b) w.1)

pub answers_read : (challenge : Challenge) (sizes : Sizes) → AnswersRead challenge sizes
answers_read challenge sizes = record {
  reads = λ said e h s.
      subst (λ challenge. Short (answer_slots challenge sizes) → (reading_fault (answer_slots challenge sizes) 0 (answer_written said) ≡ None) × (contents (answer_slots challenge sizes) 0 (answer_written said) ≡ said_contents said)) e
      (said_reads sizes said h) s;
  is_written = λ message n k b en ek e. message_said sizes n k en ek message challenge b e;
}
