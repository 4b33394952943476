-- The schedule as sixteen words that slide over it.
use Rattle.std.proofs.Common.{◌≡◌, ℕ, zero, suc, ◌+◌, ◌-◌, ◌<◌, ◌≤◌, List, [], ◌∷◌, ◌++◌, length, get_or, take, drop, sym, refl, ap, ◌∙◌, le_refl, suc-add, zero-add, arith}
use Rattle.std.proofs.lemmas.List.{append_assoc, length-append, length-drop, length-take-le, get_or-append_right, take_all, take_at, take-take, take-append-drop, drop_at, drop-drop}
use Rattle.std.proofs.lemmas.List.FromFn.{fill_by_all}
use Rattle.sha256.specs.Block.{next_word, next, extended, slid}

-- sixteen words, one by one
pub sixteen : (w : List ℕ) → length w ≡ 16 →
    w ≡ get_or w 0 0 ∷ get_or w 1 0 ∷ get_or w 2 0 ∷ get_or w 3 0 ∷ get_or w 4 0 ∷ get_or w 5 0 ∷ get_or w 6 0 ∷ get_or w 7 0 ∷
    get_or w 8 0 ∷ get_or w 9 0 ∷ get_or w 10 0 ∷ get_or w 11 0 ∷ get_or w 12 0 ∷ get_or w 13 0 ∷ get_or w 14 0 ∷ get_or w 15 0 ∷ []
sixteen w e = fill_by_all (λ i. get_or w i 0) w 16 0 e (λ k h. refl)

pub extended_none : (ws : List ℕ) → extended 0 ws ≡ ws
unfolding extended
extended_none ws = refl

next_at : (ws : List ℕ) (n : ℕ) → length ws ≡ n →
    next ws ≡ next_word (get_or ws (n - 2) 0) (get_or ws (n - 7) 0) (get_or ws (n - 15) 0) (get_or ws (n - 16) 0)
unfolding next
next_at ws n e = ap (λ k. next_word (get_or ws (k - 2) 0) (get_or ws (k - 7) 0) (get_or ws (k - 15) 0) (get_or ws (k - 16) 0)) e

pub slid_is : (w : List ℕ) (x : ℕ) → length w ≡ 16 → x ≡ next_word (get_or w 14 0) (get_or w 9 0) (get_or w 1 0) (get_or w 0 0) →
    get_or w 1 0 ∷ get_or w 2 0 ∷ get_or w 3 0 ∷ get_or w 4 0 ∷ get_or w 5 0 ∷ get_or w 6 0 ∷ get_or w 7 0 ∷ get_or w 8 0 ∷
    get_or w 9 0 ∷ get_or w 10 0 ∷ get_or w 11 0 ∷ get_or w 12 0 ∷ get_or w 13 0 ∷ get_or w 14 0 ∷ get_or w 15 0 ∷ x ∷ [] ≡ slid 1 w
unfolding slid extended
slid_is w x e p =
    let all : List ℕ → List ℕ = λ l. drop 1 (l ++ x ∷ []) in
    ap all (sym (sixteen w e)) ∙ ap (λ y. drop 1 (w ++ y ∷ [])) (p ∙ sym (next_at w 16 e))

from_end : (p w : List ℕ) (k : ℕ) → k ≤ length w → 0 < k → get_or (p ++ w) (length p + length w - k) 0 ≡ get_or w (length w - k) 0
from_end p w k h g =
    let le : length p ≤ length p + length w - k = omega arith in
    let e : length p + length w - k - length p ≡ length w - k = omega arith in
    get_or-append_right p w (length p) (length p + length w - k) 0 refl le ∙ ap (λ i. get_or w i 0) e

-- the next word depends on the last sixteen alone
next-append : (p w : List ℕ) → 16 ≤ length w → next (p ++ w) ≡ next w
next-append p w h =
    let n : ℕ = length p + length w in
    let m : ℕ = length w in
    let e2 : get_or (p ++ w) (n - 2) 0 ≡ get_or w (m - 2) 0 = from_end p w 2 (omega arith) (omega arith) in
    let e7 : get_or (p ++ w) (n - 7) 0 ≡ get_or w (m - 7) 0 = from_end p w 7 (omega arith) (omega arith) in
    let e15 : get_or (p ++ w) (n - 15) 0 ≡ get_or w (m - 15) 0 = from_end p w 15 (omega arith) (omega arith) in
    let e16 : get_or (p ++ w) (n - 16) 0 ≡ get_or w (m - 16) 0 = from_end p w 16 (omega arith) (omega arith) in
    next_at (p ++ w) n (length-append p w)
    ∙ rw (e2, e7, e15, e16) (sym (next_at w m refl))

extended-append : (n : ℕ) (p w : List ℕ) → 16 ≤ length w → extended n (p ++ w) ≡ p ++ extended n w
unfolding extended
extended-append zero p w h = refl
extended-append (suc n) p w h =
    let more : 16 ≤ length (w ++ next w ∷ []) = simp length-append (omega arith) in
    ap (λ x. extended n ((p ++ w) ++ x ∷ [])) (next-append p w h)
    ∙ ap (extended n) (append_assoc p w (next w ∷ []))
    ∙ extended-append n p (w ++ next w ∷ []) more

pub length-extended : (n : ℕ) (w : List ℕ) → length (extended n w) ≡ length w + n
unfolding extended
length-extended zero w = omega arith
length-extended (suc n) w = length-extended n (w ++ next w ∷ []) ∙ simp length-append (omega arith)

extended-add : (n m : ℕ) (w : List ℕ) → extended (n + m) w ≡ extended m (extended n w)
unfolding extended
extended-add zero m w = ap (λ k. extended k w) (zero-add m)
extended-add (suc n) m w = ap (λ k. extended k w) (suc-add n m) ∙ extended-add n m (w ++ next w ∷ [])

-- the first words stay
extended_front : (n : ℕ) (w : List ℕ) → take (length w) (extended n w) ≡ w
unfolding extended
extended_front zero w = take_all (length w) w (le_refl (length w))
extended_front (suc n) w =
    let x : List ℕ = w ++ next w ∷ [] in
    let le : length w ≤ length x = simp length-append (omega arith) in
    sym (take-take (length w) (length x) (extended n x) le)
    ∙ ap (take (length w)) (extended_front n x) ∙ take_at w (next w ∷ []) (length w) refl

pub length-slid : (n : ℕ) (w : List ℕ) → length (slid n w) ≡ length w
unfolding slid
length-slid n w = simp (length-drop, length-extended) (omega arith)

pub slid_none : (w : List ℕ) → w ≡ slid 0 w
unfolding slid extended
slid_none w = refl

pub slid-add : (n m : ℕ) (w : List ℕ) → 16 ≤ length w → slid (n + m) w ≡ slid m (slid n w)
unfolding slid
slid-add n m w h =
    let all : List ℕ = extended n w in
    let le : n ≤ length all = simp length-extended (omega arith) in
    let more : 16 ≤ length (drop n all) = simp (length-drop, length-extended) (omega arith) in
    ap (drop (n + m)) (extended-add n m w ∙ ap (extended m) (sym (take-append-drop n all)) ∙ extended-append m (take n all) (drop n all) more)
    ∙ sym (drop-drop m n (take n all ++ extended m (drop n all)))
    ∙ ap (drop m) (drop_at (take n all) (extended m (drop n all)) n (length-take-le n all le))

-- the schedule, and sixteen words more
pub extended_more : (n : ℕ) (w : List ℕ) → length w ≡ 16 → extended (n + 16) w ≡ extended n w ++ slid (n + 16) w
unfolding slid
extended_more n w e =
    let all : List ℕ = extended (n + 16) w in
    let k : length (extended n w) ≡ n + 16 = length-extended n w ∙ omega arith in
    let front : take (n + 16) all ≡ extended n w =
    ap (take (n + 16)) (extended-add n 16 w) ∙ ap (λ j. take j (extended 16 (extended n w))) (sym k) ∙ extended_front 16 (extended n w) in
    sym (take-append-drop (n + 16) all) ∙ ap (λ l. l ++ drop (n + 16) all) front
