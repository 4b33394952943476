-- Parts of a list that another list was written over, and rows of one size.
use Rattle.std.proofs.Common.{◌≡◌, ℕ, ◌+◌, ◌-◌, ◌*◌, ◌<◌, ◌≤◌, ◌≢◌, List, ◌++◌, length, take, drop, sym, ap, ◌∙◌, ⊎_elim, arith}
use Rattle.std.proofs.lemmas.List.{length-take-le, take-append-le, take-take, drop-take, drop-drop}
use Rattle.std.proofs.lemmas.Bool.{cases_lt}
use Rattle.vectors.specs.Over.{over}
use Rattle.vectors.proofs.Over.{part-over, drop-over}
use Rattle.vectors.proofs.Layers.{row_within}
use Rattle.console_steps.specs.State.{part}

pub part-part : {A : Type 0} (at size i n : ℕ) (xs : List A) → i + n ≤ size → part i n (part at size xs) ≡ part (at + i) n xs
part-part at size i n xs h =
    let e : i + (size - i) ≡ size = omega arith in
    ap (λ m. take n (drop i (take m (drop at xs)))) (sym e) ∙ ap (take n) (drop-take i (size - i) (drop at xs))
    ∙ take-take n (size - i) (drop i (drop at xs)) (omega arith) ∙ ap (take n) (drop-drop i at xs)

module _ {A : Type 0} (old : List A) (at : ℕ) (bs : List A) (h : at + length bs ≤ length old) where
  pub part-over-before : (a n : ℕ) → a + n ≤ at → part a n (over old at bs) ≡ part a n old
  unfolding over
  part-over-before a n l =
      let t = length-take-le at old (omega arith) in
      sym (drop-take a n (over old at bs))
      ∙ ap (drop a) (take-append-le (a + n) (take at old) (bs ++ drop (at + length bs) old) (omega arith) ∙ take-take (a + n) at old l)
      ∙ drop-take a n old

  pub part-over_behind : (a n : ℕ) → at + length bs ≤ a → part a n (over old at bs) ≡ part a n old
  part-over_behind a n l =
      let k : ℕ = at + length bs in
      let e : k + (a - k) ≡ a = omega arith in
      let d = drop-over old at bs h in
      let x = drop-drop (a - k) k (over old at bs) in
      let y = drop-drop (a - k) k old in
      ap (take n) (cc)

-- rows of one size, one after another: row i is written
module _ {A : Type 0} (rows size i : ℕ) (old bs : List A) (inside : i < rows) (room : rows * size ≤ length old) (long : length bs ≡ size) where
  fits : i * size + length bs ≤ length old
  fits = omega (arith, row_within i rows size inside)

  pub row_over : part (i * size) size (over old (i * size) bs) ≡ bs
  row_over = ap (λ n. part (i * size) n (over old (i * size) bs)) (sym long) ∙ part-over old (i * size) bs fits

  pub row_kept : (j : ℕ) → j ≢ i → part (j * size) size (over old (i * size) bs) ≡ part (j * size) size old
  row_kept j ne =
      ⊎_elim (λ (l : j < i). part-over-before old (i * size) bs fits (j * size) size (row_within j i size l))
      (λ (l : i ≤ j).
      let m : i < j = omega arith in
      part-over_behind old (i * size) bs fits (j * size) size (omega (arith, row_within i j size m)))
      (cases_lt j i)
