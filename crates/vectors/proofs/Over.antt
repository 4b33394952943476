-- What a part written over a list leaves, and parts written one behind another.
use Rattle.std.proofs.Common.{◌≡◌, ℕ, ◌+◌, ◌<◌, ◌≤◌, List, [], ◌∷◌, ◌++◌, length, take, drop, set, sym, refl, ap, ◌∙◌, add-zero, add-one, arith}
use borrow.Rule.Slice.PartMut.{put_mid}
use Rattle.std.proofs.lemmas.List.{append_assoc, length-append, length-drop, length-take-le, take-append-drop, drop-drop, take_at, drop_at, set_split, length-set}
use Rattle.vectors.specs.Over.{over}

pub over_none : {A : Type 0} (old : List A) (at : ℕ) → over old at [] ≡ old
unfolding over
over_none old at = rw add-zero (take-append-drop at old)

pub over-one : {A : Type 0} (old : List A) (at : ℕ) (b : A) → at < length old → set old at b ≡ over old at (b ∷ [])
unfolding over
over-one old at b h = rw add-one (set_split old at b h)

module _ {A : Type 0} (old : List A) (at : ℕ) (bs : List A) (h : at + length bs ≤ length old) where
  pub length_over : length (over old at bs) ≡ length old
  unfolding over
  length_over =
      let a = length-append (take at old) (bs ++ drop (at + length bs) old) in
      let b = length-append bs (drop (at + length bs) old) in
      let d = length-drop (at + length bs) old in
      let t = length-take-le at old (omega arith) in
      omega arith

  front : length (take at old ++ bs) ≡ at + length bs
  front =
      let a = length-append (take at old) bs in
      let t = length-take-le at old (omega arith) in
      omega arith

  pub take-over : take (at + length bs) (over old at bs) ≡ take at old ++ bs
  unfolding over
  take-over =
      ap (take (at + length bs)) (sym (append_assoc (take at old) bs (drop (at + length bs) old))) ∙ take_at (take at old ++ bs) (drop (at + length bs) old) _ front

  pub drop-over : drop (at + length bs) (over old at bs) ≡ drop (at + length bs) old
  unfolding over
  drop-over =
      ap (drop (at + length bs)) (sym (append_assoc (take at old) bs (drop (at + length bs) old))) ∙ drop_at (take at old ++ bs) (drop (at + length bs) old) _ front

  pub over-over : (n : ℕ) (cs : List A) → n ≡ at + length bs → over (over old at bs) n cs ≡ over old at (bs ++ cs)
  unfolding over
  over-over n cs e =
      let k : ℕ = at + length bs in
      let z : List A = drop (k + length cs) old in
      let t = take-over in
      let d : drop (k + length cs) (over old at bs) ≡ z = sym (drop-drop (length cs) k (over old at bs)) ∙ (ap (drop (length cs)) drop-over ∙ drop-drop (length cs) k old) in
      let a = append_assoc (take at old) bs (cs ++ z) in
      let b = append_assoc bs cs z in
      let m : at + length (bs ++ cs) ≡ k + length cs = omega (arith, length-append bs cs) in
      cc

  -- the part that was written
  pub part-over : take (length bs) (drop at (over old at bs)) ≡ bs
  unfolding over
  part-over =
      ap (take (length bs)) (drop_at (take at old) (bs ++ drop (at + length bs) old) at (length-take-le at old (omega arith)))
      ∙ take_at bs (drop (at + length bs) old) (length bs) refl

-- a copy into `out[a..a + k]`
pub over-part : {A : Type 0} (a k : ℕ) (xs ys : List A) → k ≡ length ys → put_mid a k xs ys ≡ over xs a ys
unfolding over
over-part a k xs ys e =
    ap (λ z. take a xs ++ (ys ++ z)) (drop-drop k a xs ∙ ap (λ n. drop (a + n) xs) e)

-- two writes, one behind the other, are one
pub over_behind : {A : Type 0} (old mid new : List A) (at n : ℕ) (bs cs : List A) → mid ≡ over old at bs → n ≡ at + length bs → at + length bs ≤ length old → new ≡ over mid n cs → new ≡ over old at (bs ++ cs)
over_behind old mid new at n bs cs e k h f = f ∙ (ap (λ z. over z n cs) e ∙ over-over old at bs h n cs k)

pub over-two : {A : Type 0} (old : List A) (at : ℕ) (b d : A) → at + 1 < length old → set (set old at b) (at + 1) d ≡ over old at (b ∷ d ∷ [])
over-two old at b d h =
    let l = length-set old at b in
    over_behind old (set old at b) (set (set old at b) (at + 1) d) at (at + 1) (b ∷ []) (d ∷ []) (over-one old at b (omega arith)) refl (omega arith)
    (over-one (set old at b) (at + 1) d (omega arith))
