-- The padding, as it is made in an array.
use Rattle.std.proofs.Common.{◌≡◌, ℕ, ◌+◌, ◌-◌, ◌*◌, ◌≤◌, List, ◌∷◌, ◌++◌, length, take, replicate, refl, ap, ◌∙◌, add-one, arith}
use borrow.Rule.Slice.PartMut.{put_mid}
use Rattle.std.proofs.lemmas.List.{length-append, length-replicate, take-replicate}
use Rattle.std.proofs.lemmas.Slice.{take-put_mid}
use Rattle.sha256.specs.Hash.{zeros, length_bytes, padding}

length-length_bytes : (n : ℕ) → length (length_bytes n) ≡ 8
length-length_bytes n = refl

pub length-padding : (n : ℕ) → length (padding n) ≡ zeros n + 9
unfolding padding
length-padding n =
    let l : length (length_bytes (8 * n)) ≡ 8 = length-length_bytes (8 * n) in
    simp (length-append, length-replicate) (omega arith)

-- the bit 1, in bytes of which the others are 0
abbrev one_bit : List ℕ
one_bit = 128 ∷ replicate 71 0

first-bytes : (z : ℕ) → z ≤ 71 → take (z + 1) one_bit ≡ 128 ∷ replicate z 0
first-bytes z h = ap (λ k. take k one_bit) (add-one z) ∙ ap (λ l. 128 ∷ l) (take-replicate z 71 0 h)

-- the bytes that are absorbed, where `written` has replaced those from z + 1 to z + 9
abbrev made : ℕ → List ℕ → List ℕ → List ℕ
made z start written = take (z + 9) (put_mid (z + 1) (z + 9 - (z + 1)) start written)

module _ (n z : ℕ) (start written : List ℕ) (z_is : z ≡ zeros n) (start_is : start ≡ one_bit) (written_is : written ≡ length_bytes (8 * n)) where
  pub made_is : made z start written ≡ padding n
  unfolding padding
  made_is =
      let l : length written ≡ 8 = ap length written_is ∙ length-length_bytes (8 * n) in
      let r : length start ≡ 72 = ap length start_is in
      take-put_mid (z + 1) (z + 9 - (z + 1)) start written (z + 9) (omega arith) (omega arith)
      ∙ ap (λ x. take (z + 1) x ++ written) start_is
      ∙ ap (λ x. x ++ written) (first-bytes z (omega arith))
      ∙ ap (λ x. 128 ∷ (replicate z 0 ++ x)) written_is
      ∙ ap (λ k. 128 ∷ (replicate k 0 ++ length_bytes (8 * n))) z_is
