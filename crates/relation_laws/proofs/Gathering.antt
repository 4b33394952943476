-- The sum of 2^j·z_j, modulo q and in whole numbers: what it is of a sum of layers, and of the layers of a key.
use Rattle.std.proofs.Common.{◌≡◌, ℕ, zero, suc, ◌+◌, ◌-◌, ◌*◌, ◌%◌, ◌^◌, ◌<◌, ◌≤◌, true, false, eqb, List, [], ◌∷◌, map, length, take, drop, replicate, ℤ, pos, negsuc, ◌+ℤ◌, sym, refl, ap, ◌∙◌, subst, ap₂, add-zero, add-suc, suc-add, zero-add, arith}
use native.Mathlib.Nat.{add-mod, zero-mod, two-pow-succ}
use Rattle.std.specs.List.{AllByRecursion}
use Rattle.std.proofs.lemmas.Nat.{pow_pos}
use Rattle.std.proofs.ByRecursion.{All-append, All-drop, All-map, All-take, All-weaker}
use Rattle.std.proofs.lemmas.List.{drop_at, length-append, length-drop, length-map, length-replicate, length-take-le, take_at}
use Rattle.std.proofs.lemmas.Bool.{cond_both, eqb-false}
use Rattle.vectors.specs.Counts.{count}
use Rattle.vectors.specs.Layers.{layer}
use Rattle.vectors.specs.Residues.{plus}
use Rattle.vectors.proofs.Sums.{drop-plus, length-plus, take-plus}
use Rattle.relation_laws.specs.Short.{size, residue, signed_digit, filled, digit_layers, combined, signed, with_doubled, gathered, thirds}
use Rattle.relation_laws.proofs.Counts.{Only, all_from_only}
use Rattle.relation_laws.proofs.Digits.{shifted, shifted_zero, shifted_all, shifted_digit, digit_unit}
use Rattle.relation_laws.proofs.Integers.{size-add, residue-add, residue-signed}
use Rattle.relation_laws.proofs.Lists.{layer-zero, layer-suc, all_replicate}
use Rattle.relation_laws.proofs.Sums.{mul-mod-mod, plus-plus}
use Rattle.relation_laws.proofs.Thirds.{units, length-filled, thirds-filled, all_filled, take-filled}

-- twice each entry modulo q
abbrev doubled : ℕ → List ℕ → List ℕ
doubled q xs = map (λ x. 2 * x % q) xs

double_add : (q x y : ℕ) → 2 * ((x + y) % q) % q ≡ (2 * x % q + 2 * y % q) % q
double_add q x y =
    let e : 2 * (x + y) ≡ 2 * x + 2 * y = omega arith in
    mul-mod-mod 2 (x + y) q ∙ ap (λ n. n % q) e ∙ add-mod (2 * x) (2 * y) q

doubled_plus : (q : ℕ) (xs ys : List ℕ) → doubled q (plus q xs ys) ≡ plus q (doubled q xs) (doubled q ys)
doubled_plus q [] ys = refl
doubled_plus q (x ∷ xs) [] = refl
doubled_plus q (x ∷ xs) (y ∷ ys) = ap₂ (λ a b. a ∷ b) (double_add q x y) (doubled_plus q xs ys)

plus-zeros : (q m : ℕ) → plus q (replicate m 0) (replicate m 0) ≡ replicate m 0
plus-zeros q zero = refl
plus-zeros q (suc m) = ap₂ (λ a b. a ∷ b) (zero-mod q) (plus-zeros q m)

pub combined-plus : (q m K : ℕ) (xs ys : List ℕ) → combined q m K (plus q xs ys) ≡ plus q (combined q m K xs) (combined q m K ys)
combined-plus q m zero xs ys = sym (plus-zeros q m)
combined-plus q m (suc K) xs ys =
    let X : List ℕ = combined q m K (drop (3 * m) xs) in
    let Y : List ℕ = combined q m K (drop (3 * m) ys) in
    ap₂ (λ a b. plus q a (doubled q b)) (take-plus q m xs ys) (ap (combined q m K) (drop-plus q (3 * m) xs ys) ∙ combined-plus q m K (drop (3 * m) xs) (drop (3 * m) ys))
    ∙ ap (plus q (plus q (take m xs) (take m ys))) (doubled_plus q X Y)
    ∙ plus-plus q (take m xs) (take m ys) (doubled q X) (doubled q Y)

residue_doubled : (q : ℕ) (y z : ℤ) → 0 < q → residue q (y +ℤ (z +ℤ z)) ≡ (residue q y + 2 * residue q z % q) % q
residue_doubled q y z h =
    let e : residue q z + residue q z ≡ 2 * residue q z = omega arith in
    residue-add q y (z +ℤ z) h ∙ ap (λ n. (residue q y + n) % q) (residue-add q z z h ∙ ap (λ n. n % q) e)

residues_with_doubled : (q : ℕ) (xs : List ℕ) (ys : List ℤ) → 2 ≤ q → AllByRecursion (λ x. x < q) xs
    → map (residue q) (with_doubled (map (signed q) xs) ys) ≡ plus q xs (doubled q (map (residue q) ys))
residues_with_doubled q [] ys h l = refl
residues_with_doubled q (x ∷ xs) [] h l = refl
residues_with_doubled q (x ∷ xs) (y ∷ ys) h l =
    ap₂ (λ a b. a ∷ b) (residue_doubled q (signed q x) y (omega arith) ∙ ap (λ n. (n + 2 * residue q y % q) % q) (residue-signed q x h l.0))
    (residues_with_doubled q xs ys h l.1)

residue-zeros : (q m : ℕ) → map (residue q) (replicate m (pos 0)) ≡ replicate m 0
residue-zeros q zero = refl
residue-zeros q (suc m) = ap₂ (λ a b. a ∷ b) (zero-mod q) (residue-zeros q m)

pub residues_gathered : (q m K : ℕ) (zs : List ℕ) → 2 ≤ q → AllByRecursion (λ x. x < q) zs → map (residue q) (gathered q m K zs) ≡ combined q m K zs
residues_gathered q m zero zs h l = residue-zeros q m
residues_gathered q m (suc K) zs h l =
    residues_with_doubled q (take m zs) (gathered q m K (drop (3 * m) zs)) h (All-take (λ x. x < q) m zs l)
    ∙ ap (λ r. plus q (take m zs) (doubled q r)) (residues_gathered q m K (drop (3 * m) zs) h (All-drop (λ x. x < q) (3 * m) zs l))

pub length-combined : (q m K : ℕ) (zs : List ℕ) → length zs ≡ K * (3 * m) → length (combined q m K zs) ≡ m
length-combined q m zero zs e = length-replicate m 0
length-combined q m (suc K) zs e =
    let rest : List ℕ = combined q m K (drop (3 * m) zs) in
    let first : length (take m zs) ≡ m = length-take-le m zs (omega arith) in
    let d = length-map rest (λ x. 2 * x % q) in
    let ih = length-combined q m K (drop (3 * m) zs) (length-drop (3 * m) zs ∙ omega arith) in
    length-plus q (take m zs) (doubled q rest) (omega arith) ∙ first

-- 0, 1 and −1 are of size 1 at most
units_small : (q : ℕ) → AllByRecursion (λ x. size (signed q x) ≤ 1) (units q)
units_small q =
    (small 0 (λ e. omega arith), (small 1 (λ e. omega arith), (small (q - 1) (λ e. absurd (eqb-false (q - 1) (q - 1) e refl)), tt)))
  where
    small : (x : ℕ) → (eqb x (q - 1) ≡ false → x ≤ 1) → size (signed q x) ≤ 1
    small x h = cond_both (eqb x (q - 1)) (negsuc 0) (pos x) (λ z. size z ≤ 1) (λ e. omega arith) h

sizes-with_doubled : (n : ℕ) (xs ys : List ℤ) → AllByRecursion (λ x. size x ≤ 1) xs → AllByRecursion (λ y. size y ≤ n) ys → AllByRecursion (λ z. size z ≤ 1 + (n + n)) (with_doubled xs ys)
sizes-with_doubled n [] ys hx hy = tt
sizes-with_doubled n (x ∷ xs) [] hx hy = tt
sizes-with_doubled n (x ∷ xs) (y ∷ ys) hx hy =
    (omega (arith, size-add x (y +ℤ y), size-add y y, hx.0, hy.0), sizes-with_doubled n xs ys hx.1 hy.1)

pub sizes-gathered : (q m K : ℕ) (zs : List ℕ) → Only (units q) zs → AllByRecursion (λ z. size z ≤ 2 ^ K - 1) (gathered q m K zs)
sizes-gathered q m zero zs o = all_replicate (λ z. size z ≤ 2 ^ 0 - 1) m (pos 0) (omega arith)
sizes-gathered q m (suc K) zs o =
    let n : ℕ = 2 ^ K - 1 in
    let first = All-map (λ x. size x ≤ 1) (signed q) (take m zs) (All-take (λ x. size (signed q x) ≤ 1) m zs (all_from_only (λ x. size (signed q x) ≤ 1) (units q) zs (units_small q) o)) in
    let rest = sizes-gathered q m K (drop (3 * m) zs) (All-drop (λ x. 0 < count x (units q)) (3 * m) zs o) in
    All-weaker (λ z. size z ≤ 1 + (n + n)) (λ z. size z ≤ 2 ^ suc K - 1) (λ z l. omega (arith, two-pow-succ K, pow_pos K)) _
    (sizes-with_doubled n (map (signed q) (take m zs)) (gathered q m K (drop (3 * m) zs)) first rest)

only_digits : (q j : ℕ) (key : List ℤ) → Only (units q) (map (signed_digit q j) key)
only_digits q j [] = tt
only_digits q j (z ∷ key) = (digit_unit q j z, only_digits q j key)

with_doubled-digits : (q j : ℕ) (key : List ℤ) → 3 ≤ q → with_doubled (map (signed q) (map (signed_digit q j) key)) (map (shifted (suc j)) key) ≡ map (shifted j) key
with_doubled-digits q j [] h = refl
with_doubled-digits q j (z ∷ key) h = ap₂ (λ a b. a ∷ b) (shifted_digit q j z h) (with_doubled-digits q j key h)

map_shifted_zero : (key : List ℤ) → map (shifted 0) key ≡ key
map_shifted_zero [] = refl
map_shifted_zero (z ∷ key) = ap₂ (λ a b. a ∷ b) (shifted_zero z) (map_shifted_zero key)

map_shifted_all : (j : ℕ) (key : List ℤ) → AllByRecursion (λ z. size z < 2 ^ j) key → map (shifted j) key ≡ replicate (length key) (pos 0)
map_shifted_all j [] h = refl
map_shifted_all j (z ∷ key) h = ap₂ (λ a b. a ∷ b) (shifted_all j z h.0) (map_shifted_all j key h.1)

-- the layers of a key of m entries
module _ (q m : ℕ) (key : List ℤ) (h : 3 ≤ q) (e : length key ≡ m) where
  abbrev digit_layer : ℕ → List ℕ
  digit_layer j = filled q m (map (signed_digit q j) key)

  length_digits : (j : ℕ) → length (map (signed_digit q j) key) ≡ m
  length_digits j = length-map key (signed_digit q j) ∙ e

  length_digit_layer : (j : ℕ) → length (digit_layer j) ≡ 3 * m
  length_digit_layer j = length-filled q m (map (signed_digit q j) key) h (length_digits j) (only_digits q j key)

  digit_layers_all : (P : ℕ → Type 0) → AllByRecursion P (units q) → (j K : ℕ) → AllByRecursion P (digit_layers q m j K key)
  digit_layers_all P u j zero = tt
  digit_layers_all P u j (suc K) =
      All-append P (digit_layer j) (digit_layers q m (suc j) K key)
      (all_filled q m (map (signed_digit q j) key) h (length_digits j) (only_digits q j key) P u.0 u.1.0 u.1.1.0
      (all_from_only P (units q) (map (signed_digit q j) key) u (only_digits q j key)))
      (digit_layers_all P u (suc j) K)

  pub length-digit_layers : (j K : ℕ) → length (digit_layers q m j K key) ≡ K * (3 * m)
  length-digit_layers j zero = omega arith
  length-digit_layers j (suc K) =
      length-append (digit_layer j) (digit_layers q m (suc j) K key) ∙ omega (arith, length_digit_layer j, length-digit_layers (suc j) K)

  pub digit_layers-below : (j K : ℕ) → AllByRecursion (λ x. x < q) (digit_layers q m j K key)
  digit_layers-below j K = digit_layers_all (λ x. x < q) (omega arith, (omega arith, (omega arith, tt))) j K

  layer-digit_layers : (i K j : ℕ) → j < K → layer (3 * m) j (digit_layers q m i K key) ≡ digit_layer (i + j)
  layer-digit_layers i zero j l = absurd (omega arith)
  layer-digit_layers i (suc K) zero l =
      layer-zero (3 * m) (digit_layers q m i (suc K) key) ∙ take_at (digit_layer i) (digit_layers q m (suc i) K key) (3 * m) (length_digit_layer i)
      ∙ ap digit_layer (sym (add-zero i))
  layer-digit_layers i (suc K) (suc j) l =
      layer-suc (3 * m) j (digit_layers q m i (suc K) key)
      ∙ ap (layer (3 * m) j) (drop_at (digit_layer i) (digit_layers q m (suc i) K key) (3 * m) (length_digit_layer i))
      ∙ layer-digit_layers (suc i) K j (omega arith) ∙ ap digit_layer (suc-add i j ∙ sym (add-suc i j))

  pub digit_layers-thirds : (K j : ℕ) → j < K → thirds q m (layer (3 * m) j (digit_layers q m 0 K key)) ≡ true
  digit_layers-thirds K j l =
      ap (thirds q m) (layer-digit_layers 0 K j l) ∙ thirds-filled q m (map (signed_digit q (0 + j)) key) h (length_digits (0 + j)) (only_digits q (0 + j) key)

  gathered-digit_layers : (j K : ℕ) → AllByRecursion (λ z. size z < 2 ^ (j + K)) key → gathered q m K (digit_layers q m j K key) ≡ map (shifted j) key
  gathered-digit_layers j zero l =
      ap (λ n. replicate n (pos 0)) (sym e) ∙ sym (map_shifted_all j key (subst (λ n. AllByRecursion (λ z. size z < 2 ^ n) key) (add-zero j) l))
  gathered-digit_layers j (suc K) l =
      let rest : List ℕ = digit_layers q m (suc j) K key in
      ap₂ (λ a b. with_doubled (map (signed q) a) (gathered q m K b))
      (take-filled q m (map (signed_digit q j) key) h (length_digits j) (only_digits q j key) rest) (drop_at (digit_layer j) rest (3 * m) (length_digit_layer j))
      ∙ ap (with_doubled (map (signed q) (map (signed_digit q j) key)))
      (gathered-digit_layers (suc j) K (subst (λ n. AllByRecursion (λ z. size z < 2 ^ n) key) (add-suc j K ∙ sym (suc-add j K)) l))
      ∙ with_doubled-digits q j key h

  pub gathered_split : (K : ℕ) → AllByRecursion (λ z. size z < 2 ^ K) key → gathered q m K (digit_layers q m 0 K key) ≡ key
  gathered_split K l =
      gathered-digit_layers 0 K (subst (λ n. AllByRecursion (λ z. size z < 2 ^ n) key) (sym (zero-add K)) l) ∙ map_shifted_zero key
