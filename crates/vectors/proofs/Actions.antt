-- Permutations that act layer by layer: what they keep, how they compose, and those that turn given layers into given rearrangements.
use Rattle.std.proofs.Common.{◌≡◌, ℕ, ◌*◌, ◌<◌, List, [], ◌∷◌, length, get_or, sym, ap, ◌∙◌, subst, ap₂}
use Rattle.std.specs.List.{range_with_len, AllByRecursion}
use Rattle.std.proofs.lemmas.List.{length-map}
use Rattle.vectors.specs.Counts.{count, Rearranged}
use Rattle.vectors.specs.Permutations.{Permutation, permuted}
use Rattle.vectors.specs.Residues.{plus, Residues}
use Rattle.vectors.specs.Layers.{layer, layerwise, permuted_layers, Permutations}
use Rattle.vectors.proofs.Counts.{rearranged_sym, permuted-permuted, permuted_by_id, permuted_id, permuted_permutation, permuted_rearranged}
use Rattle.vectors.proofs.Residues.{get_or-residue}
use Rattle.vectors.proofs.Sums.{permuted-plus, plus_residues}
use Rattle.vectors.proofs.Matching.{matching, length_matching, matching_permutation, permuted_matching, permuted_matching_back}
use Rattle.vectors.proofs.Layers.{length-layer, layer-plus, layer_residues, same_from_layers, residues_from_layers, length-layerwise, layer-layerwise}

permuted_residues : (q : ℕ) (p xs : List ℕ) → 0 < q → AllByRecursion (λ x. x < q) xs → AllByRecursion (λ x. x < q) (permuted p xs)
permuted_residues q [] xs z h = tt
permuted_residues q (i ∷ p) xs z h = (get_or-residue q xs i z h, permuted_residues q p xs z h)

module _ (N K : ℕ) where
  module _ (ps zs : List ℕ) (e : length ps ≡ K * N) where
    pub length-permuted-layer : (j : ℕ) → j < K → length (permuted (layer N j ps) (layer N j zs)) ≡ N
    length-permuted-layer j l = length-map (layer N j ps) (λ i. get_or (layer N j zs) i 0) ∙ length-layer N K ps j e l

    pub length-permuted_layers : length (permuted_layers N K ps zs) ≡ K * N
    length-permuted_layers = length-layerwise permuted N K ps zs length-permuted-layer

    pub layer-permuted_layers : (j : ℕ) → j < K → layer N j (permuted_layers N K ps zs) ≡ permuted (layer N j ps) (layer N j zs)
    layer-permuted_layers j l = layer-layerwise permuted N K ps zs length-permuted-layer j l

  module _ (ps : List ℕ) (hp : Permutations N K ps) where
    pub permuted_layers_rearranged : (zs : List ℕ) → length zs ≡ K * N → (j : ℕ) → j < K → Rearranged (layer N j (permuted_layers N K ps zs)) (layer N j zs)
    permuted_layers_rearranged zs e j l x =
        ap (count x) (layer-permuted_layers ps zs hp.size j l) ∙ permuted_rearranged N (layer N j ps) (layer N j zs) (hp.each j l) (length-layer N K zs j e l) x

    pub permuted_layers-permutations : (ss : List ℕ) → Permutations N K ss → Permutations N K (permuted_layers N K ps ss)
    permuted_layers-permutations ss hs =
        record {
          size = length-permuted_layers ps ss hp.size;
          each = λ j l. subst (Permutation N) (sym (layer-permuted_layers ps ss hp.size j l)) (permuted_permutation N (layer N j ps) (layer N j ss) (hp.each j l) (hs.each j l));
        }

    pub permuted_layers_residues : (q : ℕ) (zs : List ℕ) → 0 < q → Residues q (K * N) zs → Residues q (K * N) (permuted_layers N K ps zs)
    permuted_layers_residues q zs z h =
        residues_from_layers q N K (permuted_layers N K ps zs) (length-permuted_layers ps zs hp.size)
        (λ j l. subst (AllByRecursion (λ x. x < q)) (sym (layer-permuted_layers ps zs hp.size j l)) (permuted_residues q (layer N j ps) (layer N j zs) z (layer_residues q N K zs j h l).1))

    pub permuted_layers-plus : (q : ℕ) (xs ys : List ℕ) → 0 < q → Residues q (K * N) xs → Residues q (K * N) ys
        → permuted_layers N K ps (plus q xs ys) ≡ plus q (permuted_layers N K ps xs) (permuted_layers N K ps ys)
    permuted_layers-plus q xs ys z hx hy =
        same_from_layers N K (permuted_layers N K ps (plus q xs ys)) (plus q (permuted_layers N K ps xs) (permuted_layers N K ps ys)) (length-permuted_layers ps (plus q xs ys) hp.size)
        (plus_residues q (K * N) (permuted_layers N K ps xs) (permuted_layers N K ps ys) z (permuted_layers_residues q xs z hx) (permuted_layers_residues q ys z hy)).0
        (λ j l.
        layer-permuted_layers ps (plus q xs ys) hp.size j l ∙ ap (permuted (layer N j ps)) (layer-plus q N j xs ys)
        ∙ permuted-plus q (layer N j ps) (layer N j xs) (layer N j ys) (length-layer N K xs j hx.0 l ∙ sym (length-layer N K ys j hy.0 l))
        ∙ ap₂ (plus q) (sym (layer-permuted_layers ps xs hp.size j l)) (sym (layer-permuted_layers ps ys hp.size j l))
        ∙ sym (layer-plus q N j (permuted_layers N K ps xs) (permuted_layers N K ps ys)))

    pub permuted_layers_twice : (ss zs : List ℕ) → Permutations N K ss → permuted_layers N K (permuted_layers N K ps ss) zs ≡ permuted_layers N K ps (permuted_layers N K ss zs)
    permuted_layers_twice ss zs hs =
        let n : length (permuted_layers N K ps ss) ≡ K * N = length-permuted_layers ps ss hp.size in
        same_from_layers N K (permuted_layers N K (permuted_layers N K ps ss) zs) (permuted_layers N K ps (permuted_layers N K ss zs))
        (length-permuted_layers (permuted_layers N K ps ss) zs n) (length-permuted_layers ps (permuted_layers N K ss zs) hp.size)
        (λ j l.
        layer-permuted_layers (permuted_layers N K ps ss) zs n j l ∙ ap (λ p. permuted p (layer N j zs)) (layer-permuted_layers ps ss hp.size j l)
        ∙ permuted-permuted N (layer N j ps) (layer N j ss) (layer N j zs) (hp.each j l) (length-layer N K ss j hs.size l)
        ∙ ap (permuted (layer N j ps)) (sym (layer-permuted_layers ss zs hs.size j l)) ∙ sym (layer-permuted_layers ps (permuted_layers N K ss zs) hp.size j l))

  -- the permutations that turn xs into ys, layer by layer
  pub matched : List ℕ → List ℕ → List ℕ
  matched xs ys = layerwise matching N K xs ys

  module _ (xs ys : List ℕ) (ex : length xs ≡ K * N) (ey : length ys ≡ K * N) (h : (j : ℕ) → j < K → Rearranged (layer N j xs) (layer N j ys)) where
    matched_long : (j : ℕ) → j < K → length (matching (layer N j xs) (layer N j ys)) ≡ N
    matched_long j l = length_matching (layer N j xs) (layer N j ys) ∙ length-layer N K ys j ey l

    layer_matched : (j : ℕ) → j < K → layer N j (matched xs ys) ≡ matching (layer N j xs) (layer N j ys)
    unfolding matched
    layer_matched j l = layer-layerwise matching N K xs ys matched_long j l

    pub matched_permutations : Permutations N K (matched xs ys)
    unfolding matched
    matched_permutations =
        record {
          size = length-layerwise matching N K xs ys matched_long;
          each = λ j l. subst (Permutation N) (sym (layer_matched j l)) (matching_permutation (layer N j xs) (layer N j ys) (h j l) N (length-layer N K ys j ey l));
        }

    pub permuted_layers_matched : permuted_layers N K (matched xs ys) xs ≡ ys
    permuted_layers_matched =
        let p : Permutations N K (matched xs ys) = matched_permutations in
        same_from_layers N K (permuted_layers N K (matched xs ys) xs) ys (length-permuted_layers (matched xs ys) xs p.size) ey
        (λ j l.
        layer-permuted_layers (matched xs ys) xs p.size j l ∙ ap (λ p. permuted p (layer N j xs)) (layer_matched j l)
        ∙ permuted_matching (layer N j xs) (layer N j ys) (h j l) N (length-layer N K ys j ey l))

  -- the permutations for (xs, ys) and those for (ys, xs) undo each other
  module _ (xs ys : List ℕ) (ex : length xs ≡ K * N) (ey : length ys ≡ K * N) (h : (j : ℕ) → j < K → Rearranged (layer N j xs) (layer N j ys)) where
    h⁻ : (j : ℕ) → j < K → Rearranged (layer N j ys) (layer N j xs)
    h⁻ j l = rearranged_sym (layer N j xs) (layer N j ys) (h j l)

    both : (j : ℕ) → j < K → permuted (layer N j (matched xs ys)) (layer N j (matched ys xs)) ≡ range_with_len 0 N
    both j l =
        ap₂ permuted (layer_matched xs ys ex ey h j l) (layer_matched ys xs ey ex h⁻ j l)
        ∙ permuted_matching_back (layer N j xs) (layer N j ys) (h j l) N (length-layer N K ys j ey l)

    pub permuted_layers_matched_back : (zs : List ℕ) → length zs ≡ K * N → permuted_layers N K (matched xs ys) (permuted_layers N K (matched ys xs) zs) ≡ zs
    permuted_layers_matched_back zs e =
        let p : Permutations N K (matched xs ys) = matched_permutations xs ys ex ey h in
        let s : Permutations N K (matched ys xs) = matched_permutations ys xs ey ex h⁻ in
        same_from_layers N K (permuted_layers N K (matched xs ys) (permuted_layers N K (matched ys xs) zs)) zs
        (length-permuted_layers (matched xs ys) (permuted_layers N K (matched ys xs) zs) p.size) e
        (λ j l.
        layer-permuted_layers (matched xs ys) (permuted_layers N K (matched ys xs) zs) p.size j l
        ∙ ap (permuted (layer N j (matched xs ys))) (layer-permuted_layers (matched ys xs) zs s.size j l)
        ∙ sym (permuted-permuted N (layer N j (matched xs ys)) (layer N j (matched ys xs)) (layer N j zs) (p.each j l) (length-layer N K (matched ys xs) j s.size l))
        ∙ ap (λ i. permuted i (layer N j zs)) (both j l) ∙ permuted_by_id N (layer N j zs) (length-layer N K zs j e l))

    pub permuted_layers_matched_cancels : (ps : List ℕ) → Permutations N K ps → permuted_layers N K (permuted_layers N K ps (matched xs ys)) (matched ys xs) ≡ ps
    permuted_layers_matched_cancels ps hp =
        let p : Permutations N K (matched xs ys) = matched_permutations xs ys ex ey h in
        permuted_layers_twice ps hp (matched xs ys) (matched ys xs) p
        ∙ same_from_layers N K (permuted_layers N K ps (permuted_layers N K (matched xs ys) (matched ys xs))) ps
        (length-permuted_layers ps (permuted_layers N K (matched xs ys) (matched ys xs)) hp.size) hp.size
        (λ j l.
        layer-permuted_layers ps (permuted_layers N K (matched xs ys) (matched ys xs)) hp.size j l
        ∙ ap (permuted (layer N j ps)) (layer-permuted_layers (matched xs ys) (matched ys xs) p.size j l ∙ both j l)
        ∙ permuted_id N (layer N j ps) (hp.each j l))
