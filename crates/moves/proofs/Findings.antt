-- What it says that a search finds nothing.
use Rattle.std.proofs.Common.{◌≡◌, ℕ, zero, suc, ◌+◌, ◌<◌, ◌≤◌, Bool, true, false, cond, ltb, List, [], ◌∷◌, Some, None, Option, refl, ap, ◌∙◌, ap₂, ⊎_elim, arith}
use Rattle.std.specs.List.{AllByRecursion}
use Rattle.std.proofs.lemmas.Bool.{cond-true, cases_eq, ltb-true, lt-ltb}
use Rattle.vectors.specs.Layers.{layer, first_failing}
use Rattle.messages.specs.Checks.{or_else, first_above}

pub cond_none_first : {A : Type 0} (b : Bool) (x : Option A) (y : A) → cond b x (Some y) ≡ None → (b ≡ true) × (x ≡ None)
cond_none_first true x y e = (refl, e)
cond_none_first false x y e = let z : ◌≡◌ {A = ℕ} 0 1 = cc in absurd (omega arith)

pub or_else_none : {A : Type 0} (x y : Option A) → or_else x y ≡ None → (x ≡ None) × (y ≡ None)
or_else_none None y e = (refl, e)
or_else_none (Some found) y e = let z : ◌≡◌ {A = ℕ} 0 1 = cc in absurd (omega arith)

pub none_or_else : {A : Type 0} (x y : Option A) → x ≡ None → y ≡ None → or_else x y ≡ None
none_or_else x y e d = ap₂ or_else e d

pub all_from_first_above : (q offset : ℕ) (xs : List ℕ) → first_above q offset xs ≡ None → AllByRecursion (λ x. x < q) xs
all_from_first_above q offset [] e = tt
all_from_first_above q offset (x ∷ xs) e =
    let both = cond_none_first (ltb x q) (first_above q (offset + 2) xs) offset e in
    (ltb-true x q both.0, all_from_first_above q (offset + 2) xs both.1)

pub first_above_from_all : (q offset : ℕ) (xs : List ℕ) → AllByRecursion (λ x. x < q) xs → first_above q offset xs ≡ None
first_above_from_all q offset [] h = refl
first_above_from_all q offset (x ∷ xs) h = cond-true (ltb x q) _ _ (lt-ltb x q h.0) ∙ first_above_from_all q (offset + 2) xs h.1

module _ (test : ℕ → List ℕ → Bool) (N : ℕ) (zs : List ℕ) where
  passes_between : (j left : ℕ) → first_failing test N j left zs ≡ None → (i : ℕ) → j ≤ i → i < j + left → test i (layer N i zs) ≡ true
  passes_between j zero e i l u = absurd (omega arith)
  passes_between j (suc left) e i l u =
      let both = cond_none_first (test j (layer N j zs)) (first_failing test N (suc j) left zs) j e in
      ⊎_elim (λ (d : i ≡ j). ap (λ k. test k (layer N k zs)) d ∙ both.0)
      (λ (d : i ≡ j → ⊥). passes_between (suc j) left both.1 i (omega arith) (omega arith)) (cases_eq i j)

  none_between : (j left : ℕ) → ((i : ℕ) → j ≤ i → i < j + left → test i (layer N i zs) ≡ true) → first_failing test N j left zs ≡ None
  none_between j zero h = refl
  none_between j (suc left) h = cond-true (test j (layer N j zs)) _ _ (h j (omega arith) (omega arith)) ∙ none_between (suc j) left (λ i l u. h i (omega arith) (omega arith))

  pub passes_from_first_failing : (K : ℕ) → first_failing test N 0 K zs ≡ None → (j : ℕ) → j < K → test j (layer N j zs) ≡ true
  passes_from_first_failing K e j l = passes_between 0 K e j (omega arith) (omega arith)

  pub first_failing_from_passes : (K : ℕ) → ((j : ℕ) → j < K → test j (layer N j zs) ≡ true) → first_failing test N 0 K zs ≡ None
  first_failing_from_passes K h = none_between 0 K (λ j _ l. h j (omega arith))
