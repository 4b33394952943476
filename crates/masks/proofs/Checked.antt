-- The check of a mask decides whether it is well-formed.
use Rattle.std.proofs.Common.{◌≡◌, ℕ, ◌*◌, true, false, not, eqb, length, is_some, Some, None, Option, sym, refl, ap, ◌∙◌}
use Rattle.std.proofs.lemmas.Bool.{and_parts, and_from, eqb-true, eq-eqb, cond-true, cond-false, true≢false, false≢true}
use Rattle.vectors.specs.Layers.{first_failing}
use Rattle.vectors.specs.Permutations.{permutes}
use Rattle.vectors.specs.Residues.{below}
use Rattle.vectors.proofs.Residues.{all_from_below, below_from_all}
use Rattle.vectors.proofs.Failing.{permutations_from_first_failing, first_failing_from_permutations}
use Rattle.relation.specs.Meaning.{RelationMeaning}
use Rattle.masks.specs.Mask.{Mask, WellFormed, sized, sound, mask_fault}

none_from_not : (o : Option ℕ) → not (is_some o) ≡ true → o ≡ None
none_from_not None h = refl
none_from_not (Some j) h = absurd (false≢true h)

module _ {E : Type 0} (relation : RelationMeaning E) (width : ℕ) (mask : Mask) where
  abbrev size : ℕ
  size = relation.layer_count * relation.layer_len

  abbrev failing : Option ℕ
  failing = first_failing (λ j. permutes relation.layer_len) relation.layer_len 0 relation.layer_count mask.permutations

  pub well_formed_from_tests : sized relation width mask ≡ true → sound relation width mask ≡ true → WellFormed relation width mask
  well_formed_from_tests s t =
      let p = and_parts (eqb (length mask.permutations) size) _ s in
      let l = and_parts (eqb (length mask.layers) size) _ p.1 in
      let f = and_parts (eqb (length mask.free) relation.free_len) (eqb (length mask.coins) (3 * width)) l.1 in
      let permuted = and_parts (not (is_some failing)) _ t in
      let residues = and_parts (below relation.q mask.layers) (below relation.q mask.free) permuted.1 in
      record {
        permutations = permutations_from_first_failing relation.layer_len relation.layer_count mask.permutations (eqb-true _ _ p.0) (none_from_not failing permuted.0);
        layers = (eqb-true _ _ l.0, all_from_below relation.q mask.layers residues.0);
        free = (eqb-true _ _ f.0, all_from_below relation.q mask.free residues.1);
        coins = eqb-true _ _ f.1;
      }

  pub mask_fault_none : WellFormed relation width mask → mask_fault relation width mask ≡ None
  mask_fault_none h = cond-true (sized relation width mask) _ _ lengths ∙ cond-true (sound relation width mask) _ _ content
    where
      lengths : sized relation width mask ≡ true
      lengths =
          and_from (eqb (length mask.permutations) size) _ (eq-eqb _ _ h.permutations.size)
          (and_from (eqb (length mask.layers) size) _ (eq-eqb _ _ h.layers.0)
          (and_from (eqb (length mask.free) relation.free_len) (eqb (length mask.coins) (3 * width)) (eq-eqb _ _ h.free.0) (eq-eqb _ _ h.coins)))

      content : sound relation width mask ≡ true
      content =
          and_from (not (is_some failing)) _
          (ap (λ o. not (is_some o)) (first_failing_from_permutations relation.layer_len relation.layer_count mask.permutations h.permutations))
          (and_from (below relation.q mask.layers) (below relation.q mask.free) (below_from_all relation.q mask.layers h.layers.1) (below_from_all relation.q mask.free h.free.1))

  -- what the check promises where it does not refuse
  pub tests_passed : true ≡ sized relation width mask → true ≡ sound relation width mask → (mask_fault relation width mask ≡ None) × WellFormed relation width mask
  tests_passed s t =
      let formed = well_formed_from_tests (sym s) (sym t) in
      (mask_fault_none formed, formed)

  not_formed : (n : ℕ) → mask_fault relation width mask ≡ Some n → WellFormed relation width mask → ⊥
  not_formed n e h = true≢false (ap is_some (sym e ∙ mask_fault_none h))

  -- what the check promises where it refuses the content
  pub refused_by_content : true ≡ sized relation width mask → false ≡ sound relation width mask → (mask_fault relation width mask ≡ Some 33) × (WellFormed relation width mask → ⊥)
  refused_by_content s t =
      let fault : mask_fault relation width mask ≡ Some 33 = cond-true (sized relation width mask) _ _ (sym s) ∙ cond-false (sound relation width mask) _ _ (sym t) in
      (fault, not_formed 33 fault)
