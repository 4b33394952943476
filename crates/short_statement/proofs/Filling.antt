-- Layers that are filled up behind their digits, and layers one behind another.
use Rattle.std.proofs.Common.{◌≡◌, ℕ, zero, suc, ◌+◌, ◌-◌, ◌*◌, ◌<◌, ◌≤◌, List, [], ◌∷◌, ◌++◌, map, length, take, replicate, ℤ, sym, ap, ◌∙◌, ap₂, add-zero, arith}
use borrow.Rule.Slice.PartMut.{put_mid}
use Rattle.std.proofs.lemmas.List.{append_assoc, append-nil, drop_all, length-append, length-replicate, length-take-le}
use Rattle.std.proofs.lemmas.Slice.{take-put_mid}
use Rattle.vectors.specs.Counts.{count}
use Rattle.vectors.specs.Over.{over}
use Rattle.vectors.proofs.Layers.{row_within}
use Rattle.vectors.proofs.Over.{over_behind}
use Rattle.relation_laws.specs.Short.{signed_digit, filled, digit_layers}
use Rattle.relation_laws.proofs.Counts.{Only}
use Rattle.relation_laws.proofs.Digits.{digit_unit}
use Rattle.relation_laws.proofs.Thirds.{units, length-filled}

-- a part that reaches to the end
over_to_end : (old : List ℕ) (at : ℕ) (part : List ℕ) → length old ≡ at + length part → over old at part ≡ take at old ++ part
unfolding over
over_to_end old at part e = ap (λ l. take at old ++ (part ++ l)) (drop_all (at + length part) old (omega arith)) ∙ ap (λ l. take at old ++ l) (append-nil part)

-- a layer whose first m entries are digits, and the numbers of entries that are filled in behind them
module _ (q m : ℕ) (old : List ℕ) (h : 3 ≤ q) (e : length old ≡ 3 * m) (o : Only (units q) (take m old)) (minuses zeros ones : ℕ)
    (c : minuses ≡ m - count (q - 1) (take m old)) (d : zeros ≡ m - count 0 (take m old)) (f : ones ≡ m - count 1 (take m old)) where
  pub fill_counts : m + minuses + zeros + ones ≡ 3 * m
  fill_counts =
      let ds : List ℕ = take m old in
      let long : length ds ≡ m = length-take-le m old (omega arith) in
      let n = length-filled q m ds h long o in
      let a = length-append ds (replicate (m - count (q - 1) ds) (q - 1) ++ (replicate (m - count 0 ds) 0 ++ replicate (m - count 1 ds) 1)) in
      let b = length-append (replicate (m - count (q - 1) ds) (q - 1)) (replicate (m - count 0 ds) 0 ++ replicate (m - count 1 ds) 1) in
      let k = length-append {A = ℕ} (replicate (m - count 0 ds) 0) (replicate (m - count 1 ds) 1) in
      let x = length-replicate (m - count (q - 1) ds) (q - 1) in
      let y = length-replicate {A = ℕ} (m - count 0 ds) 0 in
      let z = length-replicate {A = ℕ} (m - count 1 ds) 1 in
      omega arith

  pub filled_from_parts : (one two all : List ℕ) → one ≡ over old m (replicate minuses (q - 1)) → two ≡ over one (m + minuses) (replicate zeros 0)
      → all ≡ over two (m + minuses + zeros) (replicate ones 1) → all ≡ filled q m (take m old)
  filled_from_parts one two all u v w =
      let n = fill_counts in
      let rx : List ℕ = replicate minuses (q - 1) in
      let ry : List ℕ = replicate zeros 0 in
      let rz : List ℕ = replicate ones 1 in
      let x = length-replicate minuses (q - 1) in
      let y = length-replicate {A = ℕ} zeros 0 in
      let z = length-replicate {A = ℕ} ones 1 in
      let xy = length-append rx ry in
      let yz = length-append ry rz in
      let xyz = length-append rx (ry ++ rz) in
      let s : two ≡ over old m (rx ++ ry) = over_behind old one two m (m + minuses) rx ry u (omega arith) (omega arith) v in
      let t : all ≡ over old m ((rx ++ ry) ++ rz) = over_behind old two all m (m + minuses + zeros) (rx ++ ry) rz s (omega arith) (omega arith) w in
      t ∙ ap (over old m) (append_assoc rx ry rz) ∙ over_to_end old m (rx ++ (ry ++ rz)) (omega arith)
      ∙ ap₂ (λ p r. take m old ++ (p ++ r)) (ap (λ k. replicate k (q - 1)) c) (ap₂ (λ k l. replicate k 0 ++ replicate l 1) d f)

pub only_digits : (q j : ℕ) (key : List ℤ) → Only (units q) (map (signed_digit q j) key)
only_digits q j [] = tt
only_digits q j (z ∷ key) = (digit_unit q j z, only_digits q j key)

-- one layer more
pub digit_layers_more : (q m j K : ℕ) (key : List ℤ) → digit_layers q m j (K + 1) key ≡ digit_layers q m j K key ++ filled q m (map (signed_digit q (j + K)) key)
digit_layers_more q m j zero key =
    append-nil (filled q m (map (signed_digit q j) key)) ∙ ap (λ i. filled q m (map (signed_digit q i) key)) (sym (add-zero j))
digit_layers_more q m j (suc K) key =
    let d : suc K + 1 ≡ suc (K + 1) = omega arith in
    let e : suc j + K ≡ j + suc K = omega arith in
    let first : List ℕ = filled q m (map (signed_digit q j) key) in
    ap (λ n. digit_layers q m j n key) d ∙ ap (λ l. first ++ l) (digit_layers_more q m (suc j) K key)
    ∙ sym (append_assoc first (digit_layers q m (suc j) K key) (filled q m (map (signed_digit q (suc j + K)) key)))
    ∙ ap (λ i. digit_layers q m j (suc K) key ++ filled q m (map (signed_digit q i) key)) e

-- one layer more of a list whose layers are written one by one
pub take-digit_layers_more : (q m j K N n : ℕ) (key : List ℤ) (xs part : List ℕ) → j < K → length xs ≡ K * N → length part ≡ N → n ≡ N
    → take (j * N) xs ≡ digit_layers q m 0 j key → part ≡ filled q m (map (signed_digit q j) key)
    → take ((j + 1) * N) (put_mid (j * N) n xs part) ≡ digit_layers q m 0 (j + 1) key
take-digit_layers_more q m j K N n key xs part l e f g before here =
    let w = row_within j K N l in
    let s : (j + 1) * N ≡ j * N + N = omega arith in
    let z : 0 + j ≡ j = omega arith in
    take-put_mid (j * N) n xs part ((j + 1) * N) (omega arith) (omega arith) ∙ ap₂ ◌++◌ before here
    ∙ ap (λ i. digit_layers q m 0 j key ++ filled q m (map (signed_digit q i) key)) (sym z) ∙ sym (digit_layers_more q m 0 j key)
