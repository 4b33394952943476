-- Lists in which each of 0 to N - 1 stands once, and the test that decides it.
use Rattle.std.proofs.Common.{◌≡◌, ℕ, zero, suc, ◌+◌, ◌<◌, ◌≤◌, true, false, cond, eqb, ltb, List, [], ◌∷◌, length, get_or, replicate, sym, refl, ap, ◌∙◌, inr, ⊎_elim, not-suc-le-zero, arith}
use Rattle.std.proofs.lemmas.Bool.{eqb-true, eq-eqb, and_parts, and_from, cases_Bool, cases_eq, cases_lt}
use Rattle.std.proofs.lemmas.Bool.Decides.{nat_tests}
use Rattle.vectors.specs.Counts.{total, count}
use Rattle.vectors.specs.Permutations.{Permutation, each_once, permutes}
use Rattle.vectors.proofs.Counts.{count_counting_in, count_counting_past, permutation_length, permutation_below}

-- how often the numbers below n stand in a list, in all
abbrev counts : ℕ → List ℕ → ℕ
counts zero xs = 0
counts (suc n) xs = count n xs + counts n xs

-- how many entries of a list are below n
abbrev belows : ℕ → List ℕ → ℕ
belows n xs = total (λ x. cond (ltb x n) 1 0) xs

counts_none : (n : ℕ) → counts n [] ≡ 0
counts_none zero = refl
counts_none (suc n) = omega (arith, counts_none n)

counts_cons : (n x : ℕ) (xs : List ℕ) → counts n (x ∷ xs) ≡ cond (ltb x n) 1 0 + counts n xs
counts_cons zero x xs = grind (arith, nat_tests)
counts_cons (suc n) x xs =
    let split : cond (ltb x (suc n)) 1 0 ≡ cond (eqb n x) 1 0 + cond (ltb x n) 1 0 = grind (arith, nat_tests) in
    omega (arith, counts_cons n x xs)

counts_belows : (n : ℕ) (xs : List ℕ) → counts n xs ≡ belows n xs
counts_belows n [] = counts_none n
counts_belows n (x ∷ xs) = omega (arith, counts_belows n xs, counts_cons n x xs)

belows_all : (n : ℕ) (xs : List ℕ) → ((i : ℕ) → i < length xs → get_or xs i 0 < n) → belows n xs ≡ length xs
belows_all n [] h = refl
belows_all n (x ∷ xs) h =
    let rest = belows_all n xs (λ i l. h (suc i) (omega arith)) in
    let first : x < n = h 0 (omega arith) in
    let one : ◌≡◌ {A = ℕ} (cond (ltb x n) 1 0) 1 = grind (arith, nat_tests) in
    omega arith

-- an entry is below n, or x, or neither
belows_count : (n x : ℕ) (xs : List ℕ) → n ≤ x → belows n xs + count x xs ≤ length xs
belows_count n x [] l = omega arith
belows_count n x (y ∷ ys) l =
    let rest = belows_count n x ys l in
    let first : cond (ltb y n) 1 0 + cond (eqb x y) 1 0 ≤ 1 = grind (arith, nat_tests) in
    omega arith

counts_ones : (n : ℕ) (xs : List ℕ) → ((k : ℕ) → k < n → count k xs ≡ 1) → counts n xs ≡ n
counts_ones zero xs h = refl
counts_ones (suc n) xs h = omega (arith, counts_ones n xs (λ k l. h k (omega arith)), h n (omega arith))

counts_within : (n : ℕ) (xs : List ℕ) → ((k : ℕ) → count k xs ≤ 1) → counts n xs ≤ n
counts_within zero xs h = omega arith
counts_within (suc n) xs h = omega (arith, counts_within n xs h, h n)

-- numbers that stand at most once each, and n times in all, stand once each
ones_from_counts : (n : ℕ) (xs : List ℕ) → ((k : ℕ) → count k xs ≤ 1) → counts n xs ≡ n → (k : ℕ) → k < n → count k xs ≡ 1
ones_from_counts zero xs h e k l = absurd (not-suc-le-zero l)
ones_from_counts (suc n) xs h e k l =
    let low = counts_within n xs h in
    let one = h n in
    ⊎_elim (λ (u : k < n). ones_from_counts n xs h (omega arith) k u)
    (λ (u : n ≤ k). let d : k ≡ n = omega arith in ap (λ z. count z xs) d ∙ omega arith) (cases_lt k n)

count_absent : (k : ℕ) (xs : List ℕ) → ((j : ℕ) → j < length xs → get_or xs j 0 ≡ k → ⊥) → count k xs ≡ 0
count_absent k [] h = refl
count_absent k (x ∷ xs) h =
    let rest = count_absent k xs (λ j l. h (suc j) (omega arith)) in
    let first : x ≡ k → ⊥ = h 0 (omega arith) in
    grind (arith, nat_tests)

count_apart : (k : ℕ) (xs : List ℕ) → ((i j : ℕ) → i < j → j < length xs → get_or xs i 0 ≡ get_or xs j 0 → ⊥) → count k xs ≤ 1
count_apart k [] h = omega arith
count_apart k (x ∷ xs) h =
    let rest = count_apart k xs (λ i j u l. h (suc i) (suc j) (omega arith) (omega arith)) in
    ⊎_elim (λ (e : x ≡ k). let none = count_absent k xs (λ j l d. h 0 (suc j) (omega arith) (omega arith) (e ∙ sym d)) in grind (arith, nat_tests))
    (λ (e : x ≡ k → ⊥). grind (arith, nat_tests)) (cases_eq x k)

count_there : (k : ℕ) (xs : List ℕ) (j : ℕ) → j < length xs → get_or xs j 0 ≡ k → 1 ≤ count k xs
count_there k [] j l e = absurd (not-suc-le-zero l)
count_there k (x ∷ xs) zero l e = grind (arith, nat_tests)
count_there k (x ∷ xs) (suc j) l e = omega (arith, count_there k xs j (omega arith) e)

count_twice : (k : ℕ) (xs : List ℕ) (i j : ℕ) → i < j → j < length xs → get_or xs i 0 ≡ k → get_or xs j 0 ≡ k → 2 ≤ count k xs
count_twice k [] i j u l d e = absurd (not-suc-le-zero l)
count_twice k (x ∷ xs) i zero u l d e = absurd (not-suc-le-zero u)
count_twice k (x ∷ xs) zero (suc j) u l d e = let there = count_there k xs j (omega arith) e in grind (arith, nat_tests)
count_twice k (x ∷ xs) (suc i) (suc j) u l d e = omega (arith, count_twice k xs i j (omega arith) (omega arith) d e)

each_once_from_ones : (n : ℕ) (p : List ℕ) → ((k : ℕ) → k < n → count k p ≡ 1) → each_once n p ≡ true
each_once_from_ones zero p h = refl
each_once_from_ones (suc n) p h =
    and_from (each_once n p) (eqb (count n p) 1) (each_once_from_ones n p (λ k l. h k (omega arith))) (eq-eqb (count n p) 1 (h n (omega arith)))

ones_from_each_once : (n : ℕ) (p : List ℕ) → each_once n p ≡ true → (k : ℕ) → k < n → count k p ≡ 1
ones_from_each_once zero p h k l = absurd (not-suc-le-zero l)
ones_from_each_once (suc n) p h k l =
    let both = and_parts (each_once n p) (eqb (count n p) 1) h in
    ⊎_elim (λ (u : k < n). ones_from_each_once n p both.0 k u)
    (λ (u : n ≤ k). let d : k ≡ n = omega arith in ap (λ z. count z p) d ∙ eqb-true (count n p) 1 both.1) (cases_lt k n)

pub permutation_from_permutes : (N : ℕ) (p : List ℕ) → permutes N p ≡ true → Permutation N p
permutation_from_permutes N p h = each
  where
    both : (eqb (length p) N ≡ true) × (each_once N p ≡ true)
    both = and_parts (eqb (length p) N) (each_once N p) h

    ones : (k : ℕ) → k < N → count k p ≡ 1
    ones = ones_from_each_once N p both.1

    each : Permutation N p
    each x =
        ⊎_elim (λ (l : x < N). ones x l ∙ sym (count_counting_in x 0 N (omega arith) (omega arith)))
        (λ (l : N ≤ x).
        let e = eqb-true (length p) N both.0 in
        let all = counts_ones N p ones in
        let same = counts_belows N p in
        let rest = belows_count N x p l in
        let none : count x p ≡ 0 = omega arith in
        none ∙ sym (count_counting_past x 0 N (inr (omega arith)))) (cases_lt x N)

pub permutes_from_permutation : (N : ℕ) (p : List ℕ) → Permutation N p → permutes N p ≡ true
permutes_from_permutation N p h =
    and_from (eqb (length p) N) (each_once N p) (eq-eqb (length p) N (permutation_length N p h))
    (each_once_from_ones N p (λ k l. h k ∙ count_counting_in k 0 N (omega arith) (omega arith)))

-- N numbers below N that are apart are all of them
pub permutes_from_apart : (N : ℕ) (p : List ℕ) → length p ≡ N → ((i : ℕ) → i < length p → get_or p i 0 < N)
    → ((i j : ℕ) → i < j → j < length p → get_or p i 0 ≡ get_or p j 0 → ⊥) → permutes N p ≡ true
permutes_from_apart N p e below apart =
    and_from (eqb (length p) N) (each_once N p) (eq-eqb (length p) N e)
    (each_once_from_ones N p (ones_from_counts N p (λ k. count_apart k p apart) (counts_belows N p ∙ belows_all N p below ∙ e)))

not_permutes : (N : ℕ) (p : List ℕ) → (Permutation N p → ⊥) → permutes N p ≡ false
not_permutes N p h = ⊎_elim (λ e. absurd (h (permutation_from_permutes N p e))) (λ e. e) (cases_Bool (permutes N p))

pub not_permutes_past : (N : ℕ) (p : List ℕ) (i : ℕ) → i < length p → N ≤ get_or p i 0 → permutes N p ≡ false
not_permutes_past N p i l u = not_permutes N p (λ h. omega (arith, permutation_below N p h i l))

pub not_permutes_twice : (N : ℕ) (p : List ℕ) (i j : ℕ) → i < j → j < length p → get_or p i 0 ≡ get_or p j 0 → permutes N p ≡ false
not_permutes_twice N p i j u l e =
    not_permutes N p
    (λ h.
    let two = count_twice (get_or p j 0) p i j u l e refl in
    let once = count_counting_in (get_or p j 0) 0 N (omega arith) (omega (arith, permutation_below N p h j l)) in
    omega (arith, h (get_or p j 0)))

pub get_or_unmarked : (n k : ℕ) → get_or (replicate n false) k false ≡ false
get_or_unmarked zero k = refl
get_or_unmarked (suc n) zero = refl
get_or_unmarked (suc n) (suc k) = get_or_unmarked n k
