-- Three accepted answers to the same commitments.
use Rattle.std.proofs.Common.{◌≡◌, ℕ, ◌*◌, ◌⊎◌, List, ◌++◌, take, drop, sym, ap, ◌∙◌, subst, ap₂, inl, inr, ⊎_elim, arith}
use Rattle.std.proofs.lemmas.Slice.Eq.{bytes_eq-Decides}
use Rattle.std.proofs.lemmas.List.{take_at, drop_at}
use Rattle.std.proofs.lemmas.Bool.{cases_Bool, both_ways}
use Rattle.vectors.specs.Counts.{Rearranged}
use Rattle.vectors.specs.Layers.{layer, Permutations}
use Rattle.vectors.specs.Lists.{same}
use Rattle.vectors.specs.Residues.{plus, minus}
use Rattle.vectors.specs.Words.{bytes}
use Rattle.vectors.proofs.Actions.{permuted_layers_rearranged, permuted_layers_residues, permuted_layers-plus}
use Rattle.vectors.proofs.Layers.{layer_residues}
use Rattle.vectors.proofs.Sums.{plus_comm, minus_residues, plus-minus, plus_cancel}
use Rattle.vectors.proofs.Words.{bytes_injective}
use Rattle.relation.specs.Meaning.{RelationMeaning, Layers, Free, Shaped}
use Rattle.relation.specs.Laws.{RelationLaws}
use Rattle.commitment.specs.Meaning.{SchemeMeaning}
use Rattle.messages.specs.Contents.{to_first, to_second, to_third}
use Rattle.moves.specs.Moves.{Triple, act, with_image, Accepts}
use Rattle.moves.specs.Claims.{Sound, Extracts}
use Rattle.moves.proofs.Completeness.{modulus_positive}

pub cases_same : (xs ys : List ℕ) → (xs ≡ ys) ⊎ (xs ≡ ys → ⊥)
cases_same xs ys =
    ⊎_elim (λ t. inl ((bytes_eq-Decides xs ys).0 t)) (λ f. inr (λ e. both_ways (same xs ys) f ((bytes_eq-Decides xs ys).1 e))) (cases_Bool (same xs ys))

module _ {E : Type 0} (relation : RelationMeaning E) (laws : RelationLaws relation) where
  -- what the messages have in common, without the commitments: Z - R has every shape, and its image is the target
  module _ (e r p z u r' v : List ℕ)
      (he : Layers relation e) (hr : Layers relation r) (hp : Permutations relation.layer_len relation.layer_count p) (hz : Layers relation z) (hu : Free relation u)
      (hr' : Layers relation r') (hv : Free relation v) (shapes : Shaped relation e)
      (one : minus relation.q (relation.image z u) relation.target ≡ relation.image r' v) (two : r ≡ act relation p r') (three : plus relation.q e r ≡ act relation p z) where
    difference_layers : Layers relation (minus relation.q z r')
    difference_layers = minus_residues relation.q (relation.layer_count * relation.layer_len) z r' (modulus_positive relation laws) hz hr'

    difference_free : Free relation (minus relation.q u v)
    difference_free = minus_residues relation.q relation.free_len u v (modulus_positive relation laws) hu hv

    permuted_difference : act relation p (minus relation.q z r') ≡ e
    permuted_difference =
        plus_cancel relation.q (relation.layer_count * relation.layer_len) (act relation p (minus relation.q z r')) e r
        (permuted_layers_residues relation.layer_len relation.layer_count p hp relation.q (minus relation.q z r') (modulus_positive relation laws) difference_layers) he hr
        (ap (plus relation.q (act relation p (minus relation.q z r'))) two
        ∙ sym (permuted_layers-plus relation.layer_len relation.layer_count p hp relation.q (minus relation.q z r') r' (modulus_positive relation laws) difference_layers hr')
        ∙ ap (act relation p) (plus-minus relation.q (relation.layer_count * relation.layer_len) z r' hz hr') ∙ sym three)

    difference_shaped : Shaped relation (minus relation.q z r')
    difference_shaped j l =
        laws.shape_rearranged j (layer relation.layer_len j (minus relation.q z r')) (layer relation.layer_len j e) l
        (layer_residues relation.q relation.layer_len relation.layer_count (minus relation.q z r') j difference_layers l)
        (subst (λ xs. Rearranged (layer relation.layer_len j (minus relation.q z r')) (layer relation.layer_len j xs)) permuted_difference
        (λ x. sym (permuted_layers_rearranged relation.layer_len relation.layer_count p hp (minus relation.q z r') difference_layers.0 j l x)))
        ∙ shapes j l

    difference_image : relation.image (minus relation.q z r') (minus relation.q u v) ≡ relation.target
    difference_image =
        plus_cancel relation.q relation.image_len (relation.image (minus relation.q z r') (minus relation.q u v)) relation.target (relation.image r' v)
        (laws.image_residues (minus relation.q z r') (minus relation.q u v) difference_layers difference_free) laws.target_residues (laws.image_residues r' v hr' hv)
        (sym (laws.image_plus (minus relation.q z r') r' (minus relation.q u v) v difference_layers hr' difference_free hv)
        ∙ ap₂ relation.image (plus-minus relation.q (relation.layer_count * relation.layer_len) z r' hz hr') (plus-minus relation.q relation.free_len u v hu hv)
        ∙ sym (plus-minus relation.q relation.image_len (relation.image z u) relation.target (laws.image_residues z u hz hu) laws.target_residues)
        ∙ plus_comm relation.q (minus relation.q (relation.image z u) relation.target) relation.target
        ∙ ap (plus relation.q relation.target) one)

    extracts : Extracts relation (minus relation.q z r') (minus relation.q u v)
    extracts = record {
      layers = difference_layers;
      free = difference_free;
      shaped = difference_shaped;
      image = difference_image;
      key = laws.gather_extracted (minus relation.q z r') (minus relation.q u v) difference_layers difference_free difference_shaped difference_image;
    }

  module _ (scheme : SchemeMeaning) where
    module _ (c : Triple) (e r a b p z u a' b' p'' r'' v'' a'' b'' : List ℕ)
        (first : Accepts relation scheme c (to_first e r a b)) (second : Accepts relation scheme c (to_second p z u a' b')) (third : Accepts relation scheme c (to_third p'' r'' v'' a'' b'')) where
      -- where the two messages of each commitment agree, the answers give an extracted key
      pub extracts_from_same : with_image relation p (minus relation.q (relation.image z u) relation.target) ≡ with_image relation p'' (relation.image r'' v'')
          → bytes r ≡ bytes (act relation p'' r'') → bytes (plus relation.q e r) ≡ bytes (act relation p z) → Extracts relation (minus relation.q z r'') (minus relation.q u v'')
      extracts_from_same one two three =
          let size : ℕ = relation.layer_count * relation.layer_len in
          let image : List ℕ = minus relation.q (relation.image z u) relation.target in
          let joined : p ++ image ≡ p'' ++ relation.image r'' v'' = bytes_injective (p ++ image) (p'' ++ relation.image r'' v'') one in
          let permutations : p ≡ p'' =
          sym (take_at p image size second.fields.0.size) ∙ ap (take size) joined ∙ take_at p'' (relation.image r'' v'') size third.fields.0.size in
          let images : image ≡ relation.image r'' v'' =
          sym (drop_at p image size second.fields.0.size) ∙ ap (drop size) joined ∙ drop_at p'' (relation.image r'' v'') size third.fields.0.size in
          extracts e r p z u r'' v'' first.fields.0 first.fields.1 second.fields.0 second.fields.1 second.fields.2 third.fields.1 third.fields.2 first.shapes
          images (bytes_injective r (act relation p'' r'') two ∙ ap (λ l. act relation l r'') (sym permutations)) (bytes_injective (plus relation.q e r) (act relation p z) three)

    pub sound : Sound relation scheme
    sound c e r a b p z u a' b' p'' r'' v'' a'' b'' first second third =
        ⊎_elim
        (λ one. ⊎_elim
        (λ two. ⊎_elim
        (λ three. inl (extracts_from_same c e r a b p z u a' b' p'' r'' v'' a'' b'' first second third one two three))
        (λ d. inr (3, omega arith, omega arith, record { coins = b; coins' = b'; message = bytes (plus relation.q e r); message' = bytes (act relation p z); width = first.fields.3; width' = second.fields.4; opens = first.second; opens' = second.second; differ = d }))
        (cases_same (bytes (plus relation.q e r)) (bytes (act relation p z))))
        (λ d. inr (2, omega arith, omega arith, record { coins = a; coins' = b''; message = bytes r; message' = bytes (act relation p'' r''); width = first.fields.2; width' = third.fields.4; opens = first.first; opens' = third.second; differ = d }))
        (cases_same (bytes r) (bytes (act relation p'' r''))))
        (λ d. inr (1, omega arith, omega arith, record { coins = a'; coins' = a''; message = with_image relation p (minus relation.q (relation.image z u) relation.target); message' = with_image relation p'' (relation.image r'' v''); width = second.fields.3; width' = third.fields.3; opens = second.first; opens' = third.first; differ = d }))
        (cases_same (with_image relation p (minus relation.q (relation.image z u) relation.target)) (with_image relation p'' (relation.image r'' v'')))
