-- Sums over rearranged lists; permutations as rearrangements of 0 to N - 1, their action and their composition.
use Rattle.std.proofs.Common.{◌≡◌, ℕ, zero, suc, ◌+◌, ◌<◌, ◌≤◌, Bool, true, false, cond, eqb, ◌⊎◌, List, [], ◌∷◌, map, length, get_or, sym, refl, ap, ◌∙◌, subst, inl, inr, ⊎_elim, not-suc-le-zero, zero-add, arith}
use Rattle.std.specs.List.{range_with_len, AllByRecursion}
use Rattle.std.proofs.lemmas.Bool.{eqb-true, eq-eqb, ne_eqb, cases_eq, cases_lt}
use Rattle.std.proofs.lemmas.List.FromFn.{length-range_with_len, get_or-range_with_len}
use Rattle.std.proofs.lemmas.List.{length-map, get_or-map, ext_get_or}
use Rattle.vectors.specs.Counts.{total, count, Rearranged}
use Rattle.vectors.specs.Permutations.{Permutation, permuted}

-- 1 where y is x, else 0: a count is the total of these
abbrev one_at : ℕ → ℕ → ℕ
one_at x y = cond (eqb x y) 1 0

-- the list with one x taken out
without : ℕ → List ℕ → List ℕ
without x [] = []
without x (y ∷ ys) = cond (eqb x y) ys (y ∷ without x ys)

total_without : (f : ℕ → ℕ) (x : ℕ) (ys : List ℕ) → 0 < count x ys → total f ys ≡ f x + total f (without x ys)
unfolding without
total_without f x [] h = absurd (not-suc-le-zero h)
total_without f x (y ∷ ys) h = go (eqb x y) refl h (total_without f x ys)
  where
    go : (b : Bool) → eqb x y ≡ b → 0 < cond b 1 0 + count x ys → (0 < count x ys → total f ys ≡ f x + total f (without x ys))
        → f y + total f ys ≡ f x + total f (cond b ys (y ∷ without x ys))
    go true e h ih = ap (λ z. f z + total f ys) (sym (eqb-true x y e))
    go false e h ih = omega (arith, ih (omega arith))

pub total_rearranged : (f : ℕ → ℕ) (xs ys : List ℕ) → Rearranged xs ys → total f xs ≡ total f ys
unfolding without
total_rearranged f [] [] h = refl
total_rearranged f [] (y ∷ ys) h = absurd (not-suc-le-zero (subst (λ (n : ℕ). 0 < n) (sym (h y)) (rw (eq-eqb y y refl) (omega arith))))
total_rearranged f (x ∷ xs) ys h =
    let has : 0 < count x ys = subst (λ (n : ℕ). 0 < n) (h x) (rw (eq-eqb x x refl) (omega arith)) in
    let rest : Rearranged xs (without x ys) = λ z. omega (arith, h z, total_without (one_at z) x ys has) in
    omega (arith, total_rearranged f xs (without x ys) rest, total_without f x ys has)

pub total-map : (f g : ℕ → ℕ) (xs : List ℕ) → total f (map g xs) ≡ total (λ x. f (g x)) xs
total-map f g [] = refl
total-map f g (x ∷ xs) = ap (λ n. f (g x) + n) (total-map f g xs)

pub total-ones : (xs : List ℕ) → total (λ _. 1) xs ≡ length xs
total-ones [] = refl
total-ones (x ∷ xs) = omega (arith, total-ones xs)

pub total_same : (f g : ℕ → ℕ) (xs : List ℕ) → AllByRecursion (λ x. f x ≡ g x) xs → total f xs ≡ total g xs
total_same f g [] h = refl
total_same f g (x ∷ xs) h = omega (arith, h.0, total_same f g xs h.1)

pub rearranged_sym : (xs ys : List ℕ) → Rearranged xs ys → Rearranged ys xs
rearranged_sym xs ys h x = sym (h x)

pub map_rearranged : (g : ℕ → ℕ) (xs ys : List ℕ) → Rearranged xs ys → Rearranged (map g xs) (map g ys)
map_rearranged g xs ys h x = total-map (one_at x) g xs ∙ total_rearranged (λ y. one_at x (g y)) xs ys h ∙ sym (total-map (one_at x) g ys)

pub length_rearranged : (xs ys : List ℕ) → Rearranged xs ys → length xs ≡ length ys
length_rearranged xs ys h = sym (total-ones xs) ∙ total_rearranged (λ _. 1) xs ys h ∙ total-ones ys

pub count-get_or : (xs : List ℕ) (i : ℕ) → i < length xs → 0 < count (get_or xs i 0) xs
count-get_or [] i h = absurd (not-suc-le-zero h)
count-get_or (x ∷ xs) zero h = rw (eq-eqb x x refl) (omega arith)
count-get_or (x ∷ xs) (suc i) h = omega (arith, count-get_or xs i (omega arith))

pub all_counting : (P : ℕ → Type 0) (a n : ℕ) → ((i : ℕ) → a ≤ i → i < a + n → P i) → AllByRecursion P (range_with_len a n)
all_counting P a zero h = tt
all_counting P a (suc n) h = (h a (omega arith) (omega arith), all_counting P (a + 1) n (λ i l u. h i (omega arith) (omega arith)))

pub count_counting_past : (x a n : ℕ) → (x < a) ⊎ (a + n ≤ x) → count x (range_with_len a n) ≡ 0
count_counting_past x a zero h = refl
count_counting_past x a (suc n) h =
    rw (ne_eqb x a (λ e. ⊎_elim (λ l. omega arith) (λ l. omega arith) h)) (zero-add _ ∙ count_counting_past x (a + 1) n (⊎_elim (λ l. inl (omega arith)) (λ l. inr (omega arith)) h))

pub count_counting_in : (x a n : ℕ) → a ≤ x → x < a + n → count x (range_with_len a n) ≡ 1
count_counting_in x a zero l u = omega arith
count_counting_in x a (suc n) l u = ⊎_elim here (there (λ l u. count_counting_in x (a + 1) n l u)) (cases_eq x a)
  where
    here : x ≡ a → count x (range_with_len a (suc n)) ≡ 1
    here e = rw (eq-eqb x a e) (ap (λ n. 1 + n) (count_counting_past x (a + 1) n (inl (omega arith))))

    there : (a + 1 ≤ x → x < a + 1 + n → count x (range_with_len (a + 1) n) ≡ 1) → (x ≡ a → ⊥) → count x (range_with_len a (suc n)) ≡ 1
    there ih e = rw (ne_eqb x a e) (zero-add _ ∙ ih (omega arith) (omega arith))

-- f on 0 to N - 1 has the inverse g
pub permutation_from_inverse : (N : ℕ) (f g : ℕ → ℕ) → ((i : ℕ) → i < N → f i < N) → ((i : ℕ) → i < N → g i < N)
    → ((i : ℕ) → i < N → g (f i) ≡ i) → ((i : ℕ) → i < N → f (g i) ≡ i) → Permutation N (map f (range_with_len 0 N))
permutation_from_inverse N f g fb gb gf fg x = total-map (one_at x) f (range_with_len 0 N) ∙ ⊎_elim inside outside (cases_lt x N)
  where
    at_inverse : x < N → (i : ℕ) → i < N → one_at x (f i) ≡ one_at (g x) i
    at_inverse l i u =
        ⊎_elim (λ (e : x ≡ f i). rw (eq-eqb x (f i) e, eq-eqb (g x) i (ap g e ∙ gf i u)) refl)
        (λ (e : x ≡ f i → ⊥). rw (ne_eqb x (f i) e, ne_eqb (g x) i (λ d. e (sym (fg x l) ∙ ap f d))) refl) (cases_eq x (f i))

    inside : x < N → total (λ i. one_at x (f i)) (range_with_len 0 N) ≡ count x (range_with_len 0 N)
    inside l =
        total_same (λ i. one_at x (f i)) (one_at (g x)) (range_with_len 0 N) (all_counting (λ i. one_at x (f i) ≡ one_at (g x) i) 0 N (λ i _ u. at_inverse l i (omega arith)))
        ∙ count_counting_in (g x) 0 N (omega arith) (omega (arith, gb x l)) ∙ sym (count_counting_in x 0 N (omega arith) (omega arith))

    outside : N ≤ x → total (λ i. one_at x (f i)) (range_with_len 0 N) ≡ count x (range_with_len 0 N)
    outside l =
        total_same (λ i. one_at x (f i)) (one_at x) (range_with_len 0 N)
        (all_counting (λ i. one_at x (f i) ≡ one_at x i) 0 N (λ i _ u. rw (ne_eqb x (f i) (λ d. omega (arith, fb i (omega arith))), ne_eqb x i (λ d. omega arith)) refl))

pub permutation_length : (N : ℕ) (p : List ℕ) → Permutation N p → length p ≡ N
permutation_length N p h = length_rearranged p (range_with_len 0 N) h ∙ length-range_with_len 0 N

pub permutation_below : (N : ℕ) (p : List ℕ) → Permutation N p → (i : ℕ) → i < length p → get_or p i 0 < N
permutation_below N p h i l =
    ⊎_elim (λ b. b) (λ (b : N ≤ get_or p i 0). omega (arith, count-get_or p i l, h (get_or p i 0), count_counting_past (get_or p i 0) 0 N (inr (omega arith)))) (cases_lt (get_or p i 0) N)

-- 0 to N - 1 in order leaves a list as it is
pub permuted_by_id : (N : ℕ) (b : List ℕ) → length b ≡ N → permuted (range_with_len 0 N) b ≡ b
permuted_by_id N b e =
    ext_get_or 0 (permuted (range_with_len 0 N) b) b (length-map (range_with_len 0 N) (λ i. get_or b i 0) ∙ length-range_with_len 0 N ∙ sym e)
    (λ i h.
    let l : i < N = omega (arith, h, length-map (range_with_len 0 N) (λ i. get_or b i 0), length-range_with_len 0 N) in
    get_or-map (λ i. get_or b i 0) (range_with_len 0 N) i 0 0 (omega (arith, length-range_with_len 0 N)) ∙ ap (λ j. get_or b j 0) (get_or-range_with_len 0 N i 0 l ∙ omega arith))

pub permuted_id : (N : ℕ) (p : List ℕ) → Permutation N p → permuted p (range_with_len 0 N) ≡ p
permuted_id N p h =
    ext_get_or 0 (permuted p (range_with_len 0 N)) p (length-map p (λ i. get_or (range_with_len 0 N) i 0))
    (λ i l'.
    let l : i < length p = omega (arith, l', length-map p (λ i. get_or (range_with_len 0 N) i 0)) in
    get_or-map (λ i. get_or (range_with_len 0 N) i 0) p i 0 0 l ∙ get_or-range_with_len 0 N (get_or p i 0) 0 (permutation_below N p h i l) ∙ omega arith)

pub permuted_rearranged : (N : ℕ) (p b : List ℕ) → Permutation N p → length b ≡ N → Rearranged (permuted p b) b
permuted_rearranged N p b h e x =
    map_rearranged (λ i. get_or b i 0) p (range_with_len 0 N) h x ∙ ap (count x) (permuted_by_id N b e)

pub permuted-permuted : (N : ℕ) (p s b : List ℕ) → Permutation N p → length s ≡ N → permuted (permuted p s) b ≡ permuted p (permuted s b)
permuted-permuted N p s b h e =
    ext_get_or 0 (permuted (permuted p s) b) (permuted p (permuted s b))
    (length-map (permuted p s) (λ i. get_or b i 0) ∙ length-map p (λ i. get_or s i 0) ∙ sym (length-map p (λ i. get_or (permuted s b) i 0)))
    (λ i l'.
    let l : i < length p = omega (arith, l', length-map (permuted p s) (λ i. get_or b i 0), length-map p (λ i. get_or s i 0)) in
    get_or-map (λ i. get_or b i 0) (permuted p s) i 0 0 (omega (arith, length-map p (λ i. get_or s i 0)))
    ∙ ap (λ j. get_or b j 0) (get_or-map (λ i. get_or s i 0) p i 0 0 l)
    ∙ sym (get_or-map (λ i. get_or b i 0) s (get_or p i 0) 0 0 (omega (arith, permutation_below N p h i l)))
    ∙ sym (get_or-map (λ i. get_or (permuted s b) i 0) p i 0 0 l))

pub permuted_permutation : (N : ℕ) (p s : List ℕ) → Permutation N p → Permutation N s → Permutation N (permuted p s)
permuted_permutation N p s hp hs x = permuted_rearranged N p s hp (permutation_length N s hs) x ∙ hs x
