-- Sums over the layers at one place: one layer more, and the entries of the reduced sum and of the sum in whole numbers.
use Rattle.std.proofs.Common.{◌≡◌, ℕ, zero, suc, ◌+◌, ◌-◌, ◌*◌, ◌%◌, ◌^◌, ◌<◌, ◌≤◌, eqb, List, [], ◌∷◌, map, length, get_or, take, drop, ℤ, pos, negsuc, ◌+ℤ◌, sym, refl, ap, ◌∙◌, ap₂, ⊎_elim, arith}
use native.Mathlib.Nat.{zero-mod, add-mod-mod, two-pow-succ}
use Rattle.std.proofs.lemmas.Nat.{pow_below}
use Rattle.std.proofs.lemmas.List.{drop-drop, get_or-drop, get_or-map, get_or-take, get_or-replicate, length-drop, length-map, length-replicate, length-take-le, ext_get_or}
use Rattle.std.proofs.lemmas.Bool.{cases_lt, cond_both}
use Rattle.vectors.proofs.Sums.{get_or-plus}
use Rattle.relation_laws.specs.Short.{size, combined, signed, with_doubled, gathered}
use Rattle.relation_laws.proofs.Gathering.{length-combined}
use Rattle.relation_laws.proofs.Integers.{size-add}
use Rattle.relation_laws.proofs.Sums.{mul-mod-mod}
use Rattle.short_statement.specs.Sums.{place_sum, signed_place_sum}

-- at the layer before layer j, of K layers
module _ (K N j i : ℕ) (h : 0 < j) (l : j ≤ K) where
  before : (j - 1) * N + N ≡ j * N
  before =
      let e : j - 1 + 1 ≡ j = omega arith in
      let d : (j - 1) * N + N ≡ (j - 1 + 1) * N = omega arith in
      d ∙ ap (λ n. n * N) e

  left : K - (j - 1) ≡ suc (K - j)
  left = omega arith

  pub power_before : 2 ^ (K - (j - 1)) ≡ 2 ^ (K - j) + 2 ^ (K - j)
  power_before = ap (λ n. 2 ^ n) left ∙ two-pow-succ (K - j)

  module _ (zs : List ℕ) where
    rest : drop N (drop ((j - 1) * N) zs) ≡ drop (j * N) zs
    rest = drop-drop N ((j - 1) * N) zs ∙ ap (λ n. drop n zs) before

    pub place_sum-before : place_sum N i (K - (j - 1)) (drop ((j - 1) * N) zs) ≡ get_or zs ((j - 1) * N + i) 0 + 2 * place_sum N i (K - j) (drop (j * N) zs)
    place_sum-before =
        ap (λ n. place_sum N i n (drop ((j - 1) * N) zs)) left
        ∙ ap₂ (λ x r. x + 2 * place_sum N i (K - j) r) (get_or-drop ((j - 1) * N) zs i 0) rest

    pub signed_place_sum-before : (q : ℕ) → signed_place_sum q N i (K - (j - 1)) (drop ((j - 1) * N) zs)
        ≡ signed q (get_or zs ((j - 1) * N + i) 0) +ℤ (signed_place_sum q N i (K - j) (drop (j * N) zs) +ℤ signed_place_sum q N i (K - j) (drop (j * N) zs))
    signed_place_sum-before q =
        ap (λ n. signed_place_sum q N i n (drop ((j - 1) * N) zs)) left
        ∙ ap₂ (λ x r. signed q x +ℤ (signed_place_sum q N i (K - j) r +ℤ signed_place_sum q N i (K - j) r)) (get_or-drop ((j - 1) * N) zs i 0) rest

-- at most 15 layers
pub power_small : (n : ℕ) → n ≤ 15 → 2 ^ n ≤ 32768
power_small n h = ⊎_elim (λ (l : n < 15). omega (arith, pow_below n 15 l)) (λ (l : 15 ≤ n). let e : n ≡ 15 = omega arith in omega (arith, ap (λ k. 2 ^ k) e)) (cases_lt n 15)

get_or-combined : (q m K : ℕ) (zs : List ℕ) (i : ℕ) → i < m → length zs ≡ K * (3 * m) → get_or (combined q m K zs) i 0 ≡ place_sum (3 * m) i K zs % q
get_or-combined q m zero zs i h e = get_or-replicate m i 0 0 h ∙ sym (zero-mod q)
get_or-combined q m (suc K) zs i h e =
    let r : List ℕ = combined q m K (drop (3 * m) zs) in
    let s : ℕ = place_sum (3 * m) i K (drop (3 * m) zs) in
    let short : length (drop (3 * m) zs) ≡ K * (3 * m) = length-drop (3 * m) zs ∙ omega arith in
    let long = length-combined q m K (drop (3 * m) zs) short in
    let first : length (take m zs) ≡ m = length-take-le m zs (omega arith) in
    get_or-plus q (take m zs) (map (λ x. 2 * x % q) r) i (first ∙ sym (length-map r (λ x. 2 * x % q) ∙ long))
    ∙ ap₂ (λ a b. (a + b) % q) (get_or-take m zs i 0 h)
    (get_or-map (λ x. 2 * x % q) r i 0 0 (omega arith) ∙ ap (λ x. 2 * x % q) (get_or-combined q m K (drop (3 * m) zs) i h short) ∙ mul-mod-mod 2 s q)
    ∙ add-mod-mod (get_or zs i 0) (2 * s) q

pub combined_from_sums : (q m K : ℕ) (zs out : List ℕ) → length zs ≡ K * (3 * m) → length out ≡ m → ((i : ℕ) → i < m → get_or out i 0 ≡ place_sum (3 * m) i K zs % q) → out ≡ combined q m K zs
combined_from_sums q m K zs out e d h =
    ext_get_or 0 out (combined q m K zs) (d ∙ sym (length-combined q m K zs e)) (λ i l. h i (omega arith) ∙ sym (get_or-combined q m K zs i (omega arith) e))

length-with_doubled : (xs ys : List ℤ) → length xs ≡ length ys → length (with_doubled xs ys) ≡ length xs
length-with_doubled [] ys e = refl
length-with_doubled (x ∷ xs) [] e = absurd (omega arith)
length-with_doubled (x ∷ xs) (y ∷ ys) e = ap suc (length-with_doubled xs ys (omega arith))

get_or-with_doubled : (xs ys : List ℤ) (i : ℕ) → length xs ≡ length ys → get_or (with_doubled xs ys) i (pos 0) ≡ get_or xs i (pos 0) +ℤ (get_or ys i (pos 0) +ℤ get_or ys i (pos 0))
get_or-with_doubled [] [] i e = refl
get_or-with_doubled [] (y ∷ ys) i e = absurd (omega arith)
get_or-with_doubled (x ∷ xs) [] i e = absurd (omega arith)
get_or-with_doubled (x ∷ xs) (y ∷ ys) zero e = refl
get_or-with_doubled (x ∷ xs) (y ∷ ys) (suc i) e = get_or-with_doubled xs ys i (omega arith)

length-signed : (q m : ℕ) (zs : List ℕ) → m ≤ length zs → length (map (signed q) (take m zs)) ≡ m
length-signed q m zs h = length-map (take m zs) (signed q) ∙ length-take-le m zs h

length-gathered : (q m K : ℕ) (zs : List ℕ) → length zs ≡ K * (3 * m) → length (gathered q m K zs) ≡ m
length-gathered q m zero zs e = length-replicate m (pos 0)
length-gathered q m (suc K) zs e =
    let first = length-signed q m zs (omega arith) in
    let ih = length-gathered q m K (drop (3 * m) zs) (length-drop (3 * m) zs ∙ omega arith) in
    length-with_doubled (map (signed q) (take m zs)) (gathered q m K (drop (3 * m) zs)) (first ∙ sym ih) ∙ first

get_or-gathered : (q m K : ℕ) (zs : List ℕ) (i : ℕ) → i < m → length zs ≡ K * (3 * m) → get_or (gathered q m K zs) i (pos 0) ≡ signed_place_sum q (3 * m) i K zs
get_or-gathered q m zero zs i h e = get_or-replicate m i (pos 0) (pos 0) h
get_or-gathered q m (suc K) zs i h e =
    let r : List ℤ = gathered q m K (drop (3 * m) zs) in
    let short : length (drop (3 * m) zs) ≡ K * (3 * m) = length-drop (3 * m) zs ∙ omega arith in
    let first = length-take-le m zs (omega arith) in
    get_or-with_doubled (map (signed q) (take m zs)) r i (length-signed q m zs (omega arith) ∙ sym (length-gathered q m K (drop (3 * m) zs) short))
    ∙ ap₂ (λ a b. a +ℤ (b +ℤ b)) (get_or-map (signed q) (take m zs) i 0 (pos 0) (omega arith) ∙ ap (signed q) (get_or-take m zs i 0 h)) (get_or-gathered q m K (drop (3 * m) zs) i h short)

pub gathered_from_sums : (q m K : ℕ) (zs : List ℕ) (out : List ℤ) → length zs ≡ K * (3 * m) → length out ≡ m → ((i : ℕ) → i < m → get_or out i (pos 0) ≡ signed_place_sum q (3 * m) i K zs) → out ≡ gathered q m K zs
gathered_from_sums q m K zs out e d h =
    ext_get_or (pos 0) out (gathered q m K zs) (d ∙ sym (length-gathered q m K zs e)) (λ i l. h i (omega arith) ∙ sym (get_or-gathered q m K zs i (omega arith) e))

-- sizes
pub size-signed : (q x : ℕ) → x ≤ 65535 → size (signed q x) ≤ 65535
size-signed q x h = cond_both (eqb x (q - 1)) (negsuc 0) (pos x) (λ z. size z ≤ 65535) (λ _. omega arith) (λ _. h)

pub size-with_doubled : (x y : ℤ) → size (x +ℤ (y +ℤ y)) ≤ size x + (size y + size y)
size-with_doubled x y = omega (arith, size-add x (y +ℤ y), size-add y y)
