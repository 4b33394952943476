-- One field: what it is if nothing is wrong with it.
use Rattle.std.proofs.Common.{◌≡◌, ℕ, ◌+◌, ◌*◌, ◌/◌, ◌%◌, ◌<◌, ◌≤◌, List, [], ◌∷◌, ◌++◌, length, get_or, take, drop, None, ap, ◌∙◌, arith}
use Rattle.std.proofs.lemmas.List.{length-drop, length-take-le, take-append-drop, drop-drop}
use Rattle.std.proofs.lemmas.Bool.Decides.{nat_tests}
use Rattle.messages.specs.Fields.{field}
use Rattle.messages.specs.Reading.{Slot, stated, field_fault}

module _ (slot : Slot) (bytes : List ℕ) (e : field_fault slot bytes ≡ None) where
  whole : 3 + stated bytes ≤ length bytes
  whole = grind (arith, nat_tests)

  right-tag : get_or bytes 0 0 ≡ slot.tag
  right-tag = grind (arith, nat_tests)

  right-size : stated bytes ≡ slot.size
  right-size = grind (arith, nat_tests)

  pub within : 3 + slot.size ≤ length bytes
  within = omega (arith, whole, right-size)

-- a field with the right tag and length is right
pub right-field : (slot : Slot) (bytes : List ℕ) → 3 + stated bytes ≤ length bytes → get_or bytes 0 0 ≡ slot.tag → stated bytes ≡ slot.size → field_fault slot bytes ≡ None
right-field slot bytes w t s = grind (arith, nat_tests)

front_written : (slot : Slot) (found high low : ℕ) (rest : List ℕ) → found ≡ slot.tag → high * 256 + low ≡ slot.size → low < 256 → slot.size ≤ length rest
    → found ∷ high ∷ low ∷ rest ≡ field slot.tag (take slot.size rest) ++ drop slot.size rest
front_written slot found high low rest t s l w =
    let n = length-take-le slot.size rest w in
    let h : length (take slot.size rest) / 256 ≡ high = omega arith in
    let m : length (take slot.size rest) % 256 ≡ low = omega arith in
    let d = take-append-drop slot.size rest in
    cc

-- a right field is the writing of its content
pub right-written : (slot : Slot) (bytes : List ℕ) → field_fault slot bytes ≡ None → get_or bytes 2 0 < 256 → bytes ≡ field slot.tag (take slot.size (drop 3 bytes)) ++ drop (3 + slot.size) bytes
right-written slot [] e l = absurd (omega (arith, within slot [] e))
right-written slot (t ∷ []) e l = absurd (omega (arith, within slot (t ∷ []) e))
right-written slot (t ∷ h ∷ []) e l = absurd (omega (arith, within slot (t ∷ h ∷ []) e))
right-written slot (t ∷ h ∷ b ∷ rest) e l =
    front_written slot t h b rest (right-tag slot (t ∷ h ∷ b ∷ rest) e) (right-size slot (t ∷ h ∷ b ∷ rest) e) l (omega (arith, within slot (t ∷ h ∷ b ∷ rest) e))
    ∙ ap (λ z. field slot.tag (take slot.size rest) ++ z) (drop-drop slot.size 3 (t ∷ h ∷ b ∷ rest))

module _ (slot : Slot) (at : ℕ) (message : List ℕ) where
  pub within-message : field_fault slot (drop at message) ≡ None → at + 3 + slot.size ≤ length message
  within-message e = omega (arith, within slot (drop at message) e, length-drop at message)
