-- The test whether two lists are equal; layers one by one; what holds of each entry.
use Rattle.std.proofs.Common.{◌≡◌, ℕ, zero, suc, ◌+◌, ◌*◌, ◌<◌, true, eqb, List, [], ◌∷◌, length, take, drop, replicate, sym, refl, ap, ◌∙◌, subst, zero-mul, arith}
use Rattle.std.specs.List.{AllByRecursion}
use Rattle.std.proofs.ByRecursion.{All-append}
use Rattle.std.proofs.lemmas.List.{length-drop, drop-drop, nil_from_length, take_all, take-append-drop}
use Rattle.std.proofs.lemmas.Bool.{and_from, and_parts, eqb-true, eq-eqb, false≢true}
use Rattle.vectors.specs.Lists.{same}
use Rattle.vectors.specs.Layers.{layer}

pub same_true : (xs ys : List ℕ) → same xs ys ≡ true → xs ≡ ys
same_true [] [] h = refl
same_true [] (y ∷ ys) h = absurd (false≢true h)
same_true (x ∷ xs) [] h = absurd (false≢true h)
same_true (x ∷ xs) (y ∷ ys) h =
    let both = and_parts (eqb x y) (same xs ys) h in
    let first = eqb-true x y both.0 in
    let rest = same_true xs ys both.1 in
    cc

same_self : (xs : List ℕ) → same xs xs ≡ true
same_self [] = refl
same_self (x ∷ xs) = and_from (eqb x x) (same xs xs) (eq-eqb x x refl) (same_self xs)

pub eq_same : (xs ys : List ℕ) → xs ≡ ys → same xs ys ≡ true
eq_same xs ys e = ap (λ l. same l ys) e ∙ same_self ys

pub layer-zero : (N : ℕ) (zs : List ℕ) → layer N 0 zs ≡ take N zs
layer-zero N zs = ap (λ n. take N (drop n zs)) (zero-mul N)

pub layer-suc : (N j : ℕ) (zs : List ℕ) → layer N (suc j) zs ≡ layer N j (drop N zs)
layer-suc N j zs =
    let e : suc j * N ≡ N + j * N = omega arith in
    ap (take N) (ap (λ n. drop n zs) e ∙ sym (drop-drop (j * N) N zs))

-- where there is one layer
pub layer_only : (N : ℕ) (zs : List ℕ) (j : ℕ) → length zs ≡ 1 * N → j < 1 → layer N j zs ≡ zs
layer_only N zs j e l =
    let first : j ≡ 0 = omega arith in
    ap (λ i. layer N i zs) first ∙ layer-zero N zs ∙ take_all N zs (omega arith)

pub all_from_layers : (P : ℕ → Type 0) (N K : ℕ) (zs : List ℕ) → length zs ≡ K * N → ((j : ℕ) → j < K → AllByRecursion P (layer N j zs)) → AllByRecursion P zs
all_from_layers P N zero zs e h = subst (AllByRecursion P) (sym (nil_from_length zs (omega arith))) tt
all_from_layers P N (suc K) zs e h =
    subst (AllByRecursion P) (take-append-drop N zs)
    (All-append P (take N zs) (drop N zs) (subst (AllByRecursion P) (layer-zero N zs) (h 0 (omega arith)))
    (all_from_layers P N K (drop N zs) (length-drop N zs ∙ omega arith) (λ j l. subst (AllByRecursion P) (layer-suc N j zs) (h (suc j) (omega arith)))))

pub all_replicate : {X : Type 0} (P : X → Type 0) (n : ℕ) (x : X) → P x → AllByRecursion P (replicate n x)
all_replicate P zero x h = tt
all_replicate P (suc n) x h = (h, all_replicate P n x h)
