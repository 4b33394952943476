-- A sum that is made piece by piece.
use Rattle.std.proofs.Common.{◌≡◌, ℕ, ◌+◌, ◌-◌, ◌*◌, ◌/◌, ◌≤◌, min, true, List, ◌++◌, length, take, drop, sym, refl, ap, ◌∙◌, ap₂, arith, take-add}
use borrow.Rule.Slice.PartMut.{put_mid}
use Rattle.std.proofs.lemmas.List.{append_assoc, append-nil, length-take-le, length-drop, drop-drop, drop_all, take_all, take_at, drop_at}
use Rattle.vectors.specs.Residues.{below, plus}
use Rattle.vectors.specs.Words.{words}
use Rattle.vectors.proofs.Residues.{below-part}
use Rattle.vectors.proofs.Sums.{length-plus, plus-append}
use Rattle.vectors.proofs.Words.{length-words}
use Rattle.openings.proofs.Reading.{words-drop, words_take}

-- the sum up to `done`, and the rest as it was
abbrev pub summed : ℕ → List ℕ → List ℕ → ℕ → List ℕ
summed q xs ys done = plus q (take done xs) (take done ys) ++ drop done xs

module _ (q : ℕ) (xs ys : List ℕ) (same : length xs ≡ length ys) (done : ℕ) (within : done ≤ length xs) where
  length_front : length (plus q (take done xs) (take done ys)) ≡ done
  length_front =
      let x = length-take-le done xs within in
      let y = length-take-le done ys (omega arith) in
      length-plus q (take done xs) (take done ys) (omega arith) ∙ x

  pub take_summed : take done (summed q xs ys done) ≡ plus q (take done xs) (take done ys)
  take_summed = take_at (plus q (take done xs) (take done ys)) (drop done xs) done length_front

  pub drop_summed : drop done (summed q xs ys done) ≡ drop done xs
  drop_summed = drop_at (plus q (take done xs) (take done ys)) (drop done xs) done length_front

  -- one piece more
  pub summed_more : (count : ℕ) (sum part : List ℕ) → done + count ≤ length xs → sum ≡ summed q xs ys done → part ≡ plus q (take count (drop done sum)) (take count (drop done ys)) → put_mid done count sum part ≡ summed q xs ys (done + count)
  summed_more count sum part fits e p =
      let t : take done sum ≡ plus q (take done xs) (take done ys) = ap (take done) e ∙ take_summed in
      let d : drop done sum ≡ drop done xs = ap (drop done) e ∙ drop_summed in
      let here : part ≡ plus q (take count (drop done xs)) (take count (drop done ys)) = p ∙ ap (λ l. plus q (take count l) (take count (drop done ys))) d in
      let behind : drop count (drop done sum) ≡ drop (done + count) xs = ap (drop count) d ∙ drop-drop count done xs in
      let x = length-take-le done xs within in
      let y = length-take-le done ys (omega arith) in
      let joined : plus q (take (done + count) xs) (take (done + count) ys) ≡ plus q (take done xs) (take done ys) ++ plus q (take count (drop done xs)) (take count (drop done ys)) =
      ap₂ (plus q) (take-add done count xs) (take-add done count ys) ∙ plus-append q (take done xs) (take count (drop done xs)) (take done ys) (take count (drop done ys)) (omega arith) in
      ap₂ ◌++◌ t (ap₂ ◌++◌ here behind)
      ∙ sym (append_assoc (plus q (take done xs) (take done ys)) (plus q (take count (drop done xs)) (take count (drop done ys))) (drop (done + count) xs))
      ∙ ap (λ l. l ++ drop (done + count) xs) (sym joined)

pub summed_all : (q : ℕ) (xs ys : List ℕ) (done : ℕ) → length xs ≡ length ys → length xs ≤ done → summed q xs ys done ≡ plus q xs ys
summed_all q xs ys done same h =
    ap₂ ◌++◌ (ap₂ (plus q) (take_all done xs h) (take_all done ys (omega arith))) (drop_all done xs h) ∙ append-nil (plus q xs ys)

-- a piece of at most 128 bytes, and the sum before it
module _ (q : ℕ) (xs bs : List ℕ) (size : length bs ≡ 2 * length xs) (from : ℕ) (piece rest held : List ℕ) (cut : drop (2 * from) bs ≡ piece ++ rest)
    (long : length piece ≡ min 128 (length (drop (2 * from) bs))) (e : held ≡ summed q xs (words bs) from) (within : from ≤ length xs) where
  abbrev count : ℕ
  count = length piece / 2

  abbrev ys : List ℕ
  ys = words bs

  same : length xs ≡ length ys
  same = sym (length-words (length xs) bs size)

  even : length piece ≡ 2 * count
  even = omega (arith, length-drop (2 * from) bs)

  fits : from + count ≤ length xs
  fits = omega (arith, length-drop (2 * from) bs)

  small : count ≤ 64
  small = omega arith

  alone : from + count - from ≡ count
  alone = omega arith

  pub rest_behind : rest ≡ drop (2 * (from + count)) bs
  rest_behind =
      let k : 2 * from + length piece ≡ 2 * (from + count) = omega (arith, even) in
      sym (drop_at piece rest (length piece) refl) ∙ ap (drop (length piece)) (sym cut) ∙ drop-drop (length piece) (2 * from) bs ∙ ap (λ n. drop n bs) k

  words_of_piece : words piece ≡ take count (drop from ys)
  words_of_piece =
      sym (ap words (take_at piece rest (length piece) refl)) ∙ ap (λ l. words (take (length piece) l)) (sym cut) ∙ ap (λ n. words (take n (drop (2 * from) bs))) even
      ∙ words_take count (drop (2 * from) bs) ∙ ap (take count) (words-drop from bs)

  part-long : length (take (from + count - from) (drop from held)) ≡ count
  part-long =
      let d = ap length (ap (drop from) e ∙ drop_summed q xs ys same from within) in
      length-take-le (from + count - from) (drop from held) (omega (arith, d, length-drop from xs, fits)) ∙ alone

  -- what is asked of the piece and of the part of the sum that it is added to
  pub record PieceFits : Type 0 where
    pub lengths : length piece ≡ 2 * length (take (from + count - from) (drop from held))
    pub few : length (take (from + count - from) (drop from held)) ≤ 64
    pub sum : below q (take (from + count - from) (drop from held)) ≡ true
    pub numbers : below q (words piece) ≡ true

  pub piece_fits : below q xs ≡ true → below q ys ≡ true → PieceFits
  piece_fits bx by = record {
    lengths = omega (arith, even, part-long);
    few = omega (arith, small, part-long);
    sum = ap (λ l. below q (take (from + count - from) l)) (ap (drop from) e ∙ drop_summed q xs ys same from within) ∙ below-part q from (from + count - from) xs bx;
    numbers = ap (below q) words_of_piece ∙ below-part q from count ys by;
  }

  pub piece_added : (part : List ℕ) → part ≡ plus q (take (from + count - from) (drop from held)) (words piece) → put_mid from (from + count - from) held part ≡ summed q xs ys (from + count)
  piece_added part h =
      ap (λ n. put_mid from n held part) alone
      ∙ summed_more q xs ys same from within count held part fits e (h ∙ ap₂ (plus q) (ap (λ n. take n (drop from held)) alone) words_of_piece)
