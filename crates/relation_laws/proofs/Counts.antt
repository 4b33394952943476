-- Counts of joined lists; lists that hold only given values, and when two of them are rearrangements of each other.
use Rattle.std.proofs.Common.{◌≡◌, ℕ, zero, suc, ◌+◌, ◌<◌, ◌≤◌, cond, eqb, List, [], ◌∷◌, ◌++◌, length, replicate, sym, refl, ap, ◌∙◌, ⊎_elim, arith}
use Rattle.std.specs.List.{AllByRecursion}
use Rattle.std.proofs.lemmas.Bool.{cases_eq, cases_lt, eq-eqb, ne_eqb}
use Rattle.vectors.specs.Counts.{total, count, Rearranged}

total-append : (f : ℕ → ℕ) (xs ys : List ℕ) → total f (xs ++ ys) ≡ total f xs + total f ys
total-append f [] ys = omega arith
total-append f (x ∷ xs) ys = omega (arith, total-append f xs ys)

pub count-append : (v : ℕ) (xs ys : List ℕ) → count v (xs ++ ys) ≡ count v xs + count v ys
count-append v xs ys = total-append _ xs ys

pub count-replicate : (v n : ℕ) → count v (replicate n v) ≡ n
count-replicate v zero = refl
count-replicate v (suc n) = rw (eq-eqb v v refl) (omega (arith, count-replicate v n))

pub count-replicate_other : (v x n : ℕ) → (v ≡ x → ⊥) → count v (replicate n x) ≡ 0
count-replicate_other v x zero h = refl
count-replicate_other v x (suc n) h = rw (ne_eqb v x h) (omega (arith, count-replicate_other v x n h))

-- each entry of xs is one of ds
abbrev pub Only : List ℕ → List ℕ → Type 0
Only ds xs = AllByRecursion (λ x. 0 < count x ds) xs

-- no value stands twice
abbrev pub Distinct : List ℕ → Type 0
Distinct ds = (x : ℕ) → count x ds ≤ 1

-- how many entries of xs are one of ds
abbrev pub hits : List ℕ → List ℕ → ℕ
hits ds xs = total (λ d. count d xs) ds

total-zero : (ds : List ℕ) → total (λ _. 0) ds ≡ 0
total-zero [] = refl
total-zero (d ∷ ds) = omega (arith, total-zero ds)

total-add : (f g : ℕ → ℕ) (ds : List ℕ) → total (λ d. f d + g d) ds ≡ total f ds + total g ds
total-add f g [] = refl
total-add f g (d ∷ ds) = omega (arith, total-add f g ds)

hit_comm : (d x : ℕ) → ◌≡◌ {A = ℕ} (cond (eqb d x) 1 0) (cond (eqb x d) 1 0)
hit_comm d x =
    ⊎_elim (λ (e : d ≡ x). rw (eq-eqb d x e, eq-eqb x d (sym e)) refl)
    (λ (n : d ≡ x → ⊥). rw (ne_eqb d x n, ne_eqb x d (λ e. n (sym e))) refl) (cases_eq d x)

total_hit : (x : ℕ) (ds : List ℕ) → total (λ d. cond (eqb d x) 1 0) ds ≡ count x ds
total_hit x [] = refl
total_hit x (d ∷ ds) = omega (arith, hit_comm d x, total_hit x ds)

hits_cons : (ds : List ℕ) (x : ℕ) (xs : List ℕ) → hits ds (x ∷ xs) ≡ count x ds + hits ds xs
hits_cons ds x xs = total-add (λ d. cond (eqb d x) 1 0) (λ d. count d xs) ds ∙ ap (λ n. n + hits ds xs) (total_hit x ds)

hits_le : (ds xs : List ℕ) → Distinct ds → hits ds xs ≤ length xs
hits_le ds [] h = omega (arith, total-zero ds)
hits_le ds (x ∷ xs) h = omega (arith, hits_cons ds x xs, h x, hits_le ds xs h)

pub only_from_hits : (ds xs : List ℕ) → Distinct ds → hits ds xs ≡ length xs → Only ds xs
only_from_hits ds [] h e = tt
only_from_hits ds (x ∷ xs) h e =
    let c = hits_cons ds x xs in
    let l = hits_le ds xs h in
    let o = h x in
    (omega arith, only_from_hits ds xs h (omega arith))

pub hits_only : (ds xs : List ℕ) → Distinct ds → Only ds xs → hits ds xs ≡ length xs
hits_only ds [] h o = total-zero ds
hits_only ds (x ∷ xs) h o = omega (arith, hits_cons ds x xs, h x, o.0, hits_only ds xs h o.1)

count_outside : (v : ℕ) (ds xs : List ℕ) → count v ds ≡ 0 → Only ds xs → count v xs ≡ 0
count_outside v ds [] e o = refl
count_outside v ds (x ∷ xs) e o =
    ⊎_elim (λ (d : v ≡ x). absurd (omega (arith, ap (λ z. count z ds) d, o.0)))
    (λ (n : v ≡ x → ⊥). rw (ne_eqb v x n) (omega (arith, count_outside v ds xs e o.1))) (cases_eq v x)

-- what holds of each entry, at one that stands in the list
holds_at : (P : ℕ → Type 0) (v : ℕ) (ds : List ℕ) → AllByRecursion P ds → 0 < count v ds → P v
holds_at P v [] h l = absurd (omega arith)
holds_at P v (d ∷ ds) h l =
    ⊎_elim (λ (e : v ≡ d). rw e h.0)
    (λ (n : v ≡ d → ⊥). holds_at P v ds h.1 (let l' : 0 < 0 + count v ds = rw (ne_eqb v d n) at l in omega arith)) (cases_eq v d)

pub all_from_only : (P : ℕ → Type 0) (ds xs : List ℕ) → AllByRecursion P ds → Only ds xs → AllByRecursion P xs
all_from_only P ds [] h o = tt
all_from_only P ds (x ∷ xs) h o = (holds_at P x ds h o.0, all_from_only P ds xs h o.1)

pub rearranged_from_counts : (ds xs ys : List ℕ) → Only ds xs → Only ds ys → AllByRecursion (λ d. count d xs ≡ count d ys) ds → Rearranged xs ys
rearranged_from_counts ds xs ys ox oy h v =
    ⊎_elim (λ (l : 0 < count v ds). holds_at (λ d. count d xs ≡ count d ys) v ds h l)
    (λ (z : count v ds ≤ 0).
    let none : count v ds ≡ 0 = omega arith in
    count_outside v ds xs none ox ∙ sym (count_outside v ds ys none oy))
    (cases_lt 0 (count v ds))
