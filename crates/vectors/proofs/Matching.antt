-- The permutation that turns a list into a given rearrangement of it; the two of a pair are inverse to each other.
use Rattle.std.proofs.Common.{◌≡◌, ℕ, zero, suc, ◌+◌, ◌<◌, Bool, true, false, cond, eqb, List, [], ◌∷◌, map, length, get_or, take, sym, refl, ap, ◌∙◌, subst, not-suc-le-zero, zero-add, one-add, arith}
use Rattle.std.specs.List.{range_with_len}
use Rattle.std.proofs.lemmas.Bool.{eqb-true, eq-eqb}
use Rattle.std.proofs.lemmas.List.FromFn.{length-range_with_len, get_or-range_with_len, length-map-range_with_len, get_or-map-range_with_len}
use Rattle.std.proofs.lemmas.List.{ext_get_or, length-map, get_or-map}
use Rattle.vectors.specs.Counts.{count, Rearranged}
use Rattle.vectors.specs.Permutations.{Permutation, permuted}
use Rattle.vectors.proofs.Counts.{permutation_from_inverse, length_rearranged, rearranged_sym}

-- the step of `select`, by whether the first entry is x
pick : Bool → ℕ → (ℕ → ℕ) → ℕ
pick true zero f = 0
pick true (suc k) f = suc (f k)
pick false k f = suc (f k)

-- where x stands for the k-th time, counted from 0
select : List ℕ → ℕ → ℕ → ℕ
select [] x k = 0
select (y ∷ ys) x k = pick (eqb x y) k (select ys x)

-- x stands at i, and k times before it
Stands : List ℕ → ℕ → ℕ → ℕ → Type 0
Stands xs x k i = (i < length xs) × (get_or xs i 0 ≡ x) × (count x (take i xs) ≡ k)

select_stands : (xs : List ℕ) (x k : ℕ) → k < count x xs → Stands xs x k (select xs x k)
unfolding select pick Stands
select_stands [] x k h = absurd (not-suc-le-zero h)
select_stands (y ∷ ys) x k h = go (eqb x y) refl k h (select_stands ys x)
  where
    go : (b : Bool) → eqb x y ≡ b → (k : ℕ) → k < cond b 1 0 + count x ys → ((k : ℕ) → k < count x ys → Stands ys x k (select ys x k))
        → Stands (y ∷ ys) x k (pick b k (select ys x))
    go true e zero h ih = (omega arith, sym (eqb-true x y e), refl)
    go true e (suc k) h ih =
        let t : Stands ys x k (select ys x k) = ih k (omega arith) in
        (omega (arith, t.0), t.1, rw e (ap (λ n. 1 + n) t.2 ∙ one-add k))
    go false e k h ih =
        let t : Stands ys x k (select ys x k) = ih k (omega arith) in
        (omega (arith, t.0), t.1, rw e (ap (λ n. 0 + n) t.2 ∙ zero-add k))

select_count : (xs : List ℕ) (x i : ℕ) → i < length xs → get_or xs i 0 ≡ x → select xs x (count x (take i xs)) ≡ i
unfolding select pick
select_count [] x i h e = absurd (not-suc-le-zero h)
select_count (y ∷ ys) x zero h e = rw (eq-eqb x y (sym e)) refl
select_count (y ∷ ys) x (suc i) h e = go (eqb x y) refl (select_count ys x i (omega arith) e)
  where
    go : (b : Bool) → eqb x y ≡ b → select ys x (count x (take i ys)) ≡ i → pick b (cond b 1 0 + count x (take i ys)) (select ys x) ≡ suc i
    go true d ih = rw one-add (ap suc ih)
    go false d ih = rw zero-add (ap suc ih)

count-take-below : (xs : List ℕ) (i : ℕ) → i < length xs → count (get_or xs i 0) (take i xs) < count (get_or xs i 0) xs
count-take-below [] i h = absurd (not-suc-le-zero h)
count-take-below (y ∷ ys) zero h = rw (eq-eqb y y refl) (omega arith)
count-take-below (y ∷ ys) (suc i) h = omega (arith, count-take-below ys i (omega arith))

-- the place in xs of what stands at i in ys
place : List ℕ → List ℕ → ℕ → ℕ
place xs ys i = select xs (get_or ys i 0) (count (get_or ys i 0) (take i ys))

-- the permutation that turns xs into ys
pub matching : List ℕ → List ℕ → List ℕ
matching xs ys = map (place xs ys) (range_with_len 0 (length ys))

place_stands : (xs ys : List ℕ) → Rearranged xs ys → (i : ℕ) → i < length ys → Stands xs (get_or ys i 0) (count (get_or ys i 0) (take i ys)) (place xs ys i)
unfolding place
place_stands xs ys h i l = select_stands xs (get_or ys i 0) (count (get_or ys i 0) (take i ys)) (omega (arith, h (get_or ys i 0), count-take-below ys i l))

place-below : (xs ys : List ℕ) → Rearranged xs ys → (i : ℕ) → i < length ys → place xs ys i < length xs
unfolding Stands
place-below xs ys h i l = (place_stands xs ys h i l).0

place-place : (xs ys : List ℕ) → Rearranged xs ys → (i : ℕ) → i < length ys → place ys xs (place xs ys i) ≡ i
unfolding Stands place
place-place xs ys h i l =
    let t : Stands xs (get_or ys i 0) (count (get_or ys i 0) (take i ys)) (place xs ys i) = place_stands xs ys h i l in
    back (place xs ys i) t.1 t.2
  where
    back : (a : ℕ) → get_or xs a 0 ≡ get_or ys i 0 → count (get_or ys i 0) (take a xs) ≡ count (get_or ys i 0) (take i ys) → place ys xs a ≡ i
    back a e d = ap (λ x. select ys x (count x (take a xs))) e ∙ ap (select ys (get_or ys i 0)) d ∙ select_count ys (get_or ys i 0) i l refl

pub length_matching : (xs ys : List ℕ) → length (matching xs ys) ≡ length ys
unfolding matching
length_matching xs ys = length-map-range_with_len (place xs ys) 0 (length ys)

get_or_matching : (xs ys : List ℕ) (i : ℕ) → i < length ys → get_or (matching xs ys) i 0 ≡ place xs ys i
unfolding matching
get_or_matching xs ys i l = get_or-map-range_with_len (place xs ys) 0 (length ys) i i 0 l (zero-add i)

module _ (xs ys : List ℕ) (h : Rearranged xs ys) (N : ℕ) (e : length ys ≡ N) where
  pub matching_permutation : Permutation N (matching xs ys)
  unfolding matching
  matching_permutation =
      let same : length xs ≡ length ys = length_rearranged xs ys h in
      subst (λ n. Permutation n (map (place xs ys) (range_with_len 0 (length ys)))) e
      (permutation_from_inverse (length ys) (place xs ys) (place ys xs) (λ i l. subst (λ n. place xs ys i < n) same (place-below xs ys h i l))
      (λ i l. place-below ys xs (rearranged_sym xs ys h) i (subst (λ n. i < n) (sym same) l))
      (λ i l. place-place xs ys h i l) (λ i l. place-place ys xs (rearranged_sym xs ys h) i (subst (λ n. i < n) (sym same) l)))

  pub permuted_matching : permuted (matching xs ys) xs ≡ ys
  unfolding Stands
  permuted_matching =
      ext_get_or 0 (permuted (matching xs ys) xs) ys (length-map (matching xs ys) (λ i. get_or xs i 0) ∙ length_matching xs ys)
      (λ i l'.
      let l : i < length ys = omega (arith, l', length-map (matching xs ys) (λ i. get_or xs i 0), length_matching xs ys) in
      get_or-map (λ i. get_or xs i 0) (matching xs ys) i 0 0 (omega (arith, length_matching xs ys))
      ∙ ap (λ j. get_or xs j 0) (get_or_matching xs ys i l) ∙ (place_stands xs ys h i l).1)

  -- the permutation for (xs, ys) and the one for (ys, xs) undo each other
  pub permuted_matching_back : permuted (matching xs ys) (matching ys xs) ≡ range_with_len 0 N
  permuted_matching_back =
      ext_get_or 0 (permuted (matching xs ys) (matching ys xs)) (range_with_len 0 N)
      (length-map (matching xs ys) (λ i. get_or (matching ys xs) i 0) ∙ length_matching xs ys ∙ e ∙ sym (length-range_with_len 0 N))
      (λ i l'.
      let l : i < length ys = omega (arith, l', length-map (matching xs ys) (λ i. get_or (matching ys xs) i 0), length_matching xs ys) in
      get_or-map (λ i. get_or (matching ys xs) i 0) (matching xs ys) i 0 0 (omega (arith, length_matching xs ys))
      ∙ ap (λ j. get_or (matching ys xs) j 0) (get_or_matching xs ys i l)
      ∙ get_or_matching ys xs (place xs ys i) (place-below xs ys h i l)
      ∙ place-place xs ys h i l ∙ sym (zero-add i) ∙ sym (get_or-range_with_len 0 N i 0 (omega arith)))
