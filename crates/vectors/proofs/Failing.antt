-- The first layer to which a test says no.
use Rattle.std.proofs.Common.{◌≡◌, ℕ, zero, suc, ◌+◌, ◌-◌, ◌*◌, ◌<◌, ◌≤◌, Bool, true, false, cond, List, length, take, drop, Some, None, Option, sym, refl, ap, ◌∙◌, ap₂, ⊎_elim, add-one, arith}
use Rattle.std.proofs.lemmas.Bool.{cond-true, cond-false, cases_eq}
use Rattle.vectors.specs.Permutations.{permutes}
use Rattle.vectors.specs.Layers.{layer, first_failing, Permutations}
use Rattle.vectors.proofs.Layers.{row_at, length-layer}
use Rattle.vectors.proofs.Once.{permutation_from_permutes, permutes_from_permutation}

-- the test of layer j as the checker reads `&ps[start..end]` at its places
pub permutes_row : (N K j start end : ℕ) (ps : List ℕ) → start ≡ j * N → end ≡ j * N + N → length ps ≡ K * N → j < K
    → permutes (length (take (end - start) (drop start ps))) (take (end - start) (drop start ps)) ≡ permutes N (layer N j ps)
permutes_row N K j start end ps s e h l = let r = row_at N j start end ps s e in ap₂ permutes (ap length r ∙ length-layer N K ps j h l) r

none_cond : (b : Bool) (found : Option ℕ) (j : ℕ) → cond b found (Some j) ≡ None → (b ≡ true) × (found ≡ None)
none_cond true found j h = (refl, h)
none_cond false found j h = let z : ◌≡◌ {A = ℕ} 0 1 = cc in absurd (omega arith)

module _ (test : ℕ → List ℕ → Bool) (N : ℕ) (zs : List ℕ) where
  -- layer j passes: what is found from j on is found from the next on
  pub first_failing_more : (j K : ℕ) → j < K → test j (layer N j zs) ≡ true → first_failing test N (j + 1) (K - (j + 1)) zs ≡ first_failing test N j (K - j) zs
  first_failing_more j K l h =
      let left : K - j ≡ suc (K - (j + 1)) = omega arith in
      rw (left, add-one) (sym (cond-true (test j (layer N j zs)) _ _ h))

  pub first_failing_here : (j K : ℕ) → j < K → test j (layer N j zs) ≡ false → first_failing test N j (K - j) zs ≡ Some j
  first_failing_here j K l h =
      let left : K - j ≡ suc (K - (j + 1)) = omega arith in
      rw left (cond-false (test j (layer N j zs)) _ _ h)

  passes_from : (j left : ℕ) → first_failing test N j left zs ≡ None → (i : ℕ) → j ≤ i → i < j + left → test i (layer N i zs) ≡ true
  passes_from j zero h i l u = absurd (omega arith)
  passes_from j (suc left) h i l u =
      let both = none_cond (test j (layer N j zs)) (first_failing test N (suc j) left zs) j h in
      ⊎_elim (λ (e : i ≡ j). ap (λ k. test k (layer N k zs)) e ∙ both.0)
      (λ (e : i ≡ j → ⊥). passes_from (suc j) left both.1 i (omega arith) (omega arith)) (cases_eq i j)

  none_from : (j left : ℕ) → ((i : ℕ) → j ≤ i → i < j + left → test i (layer N i zs) ≡ true) → first_failing test N j left zs ≡ None
  none_from j zero h = refl
  none_from j (suc left) h =
      cond-true (test j (layer N j zs)) _ _ (h j (omega arith) (omega arith)) ∙ none_from (suc j) left (λ i l u. h i (omega arith) (omega arith))

pub permutations_from_first_failing : (N K : ℕ) (ps : List ℕ) → length ps ≡ K * N → first_failing (λ j. permutes N) N 0 K ps ≡ None → Permutations N K ps
permutations_from_first_failing N K ps e h = record {
  size = e;
  each = λ j l. permutation_from_permutes N (layer N j ps) (passes_from (λ j. permutes N) N ps 0 K h j (omega arith) (omega arith));
}

pub first_failing_from_permutations : (N K : ℕ) (ps : List ℕ) → Permutations N K ps → first_failing (λ j. permutes N) N 0 K ps ≡ None
first_failing_from_permutations N K ps h =
    none_from (λ j. permutes N) N ps 0 K (λ j _ l. permutes_from_permutation N (layer N j ps) (h.each j (omega arith)))
