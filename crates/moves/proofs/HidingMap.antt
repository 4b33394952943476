-- The map of masks from one key to another, for each challenge: what is seen stays the same, and the map for the exchanged keys undoes it.
use Rattle.std.proofs.Common.{◌≡◌, ℕ, ◌*◌, ◌<◌, List, sym, refl, ap, ◌∙◌, ap₂}
use Rattle.vectors.specs.Counts.{Rearranged}
use Rattle.vectors.specs.Layers.{layer, Permutations}
use Rattle.vectors.specs.Residues.{plus, minus}
use Rattle.vectors.specs.Words.{bytes}
use Rattle.vectors.proofs.Actions.{permuted_layers_residues, permuted_layers-plus, permuted_layers-permutations, permuted_layers_twice, matched, matched_permutations, permuted_layers_matched, permuted_layers_matched_back, permuted_layers_matched_cancels}
use Rattle.vectors.proofs.Layers.{layer_residues}
use Rattle.vectors.proofs.Sums.{plus_residues, minus_residues, plus-minus, minus_plus}
use Rattle.relation.specs.Meaning.{RelationMeaning, Key}
use Rattle.relation.specs.Laws.{RelationLaws}
use Rattle.commitment.specs.Meaning.{SchemeMeaning}
use Rattle.masks.specs.Mask.{Mask, mask_of, coin_string, WellFormed}
use Rattle.messages.specs.declared.challenge.Challenge.{Challenge}
use Rattle.messages.specs.declared.challenge.Challenge.TheVariants.{One, Two, Three}
use Rattle.messages.specs.Contents.{to_first, to_second}
use Rattle.moves.specs.Moves.{act, with_image, commitments, answer, opened}
use Rattle.moves.specs.Claims.{Hiding}
use Rattle.moves.proofs.Completeness.{modulus_positive, masked_image_less_target}

module _ {E : Type 0} (relation : RelationMeaning E) where
  -- the permutations that turn the layers of one key into those of another
  abbrev turning : List E → List E → List ℕ
  turning key key' = matched relation.layer_len relation.layer_count (relation.split_layers key) (relation.split_layers key')

  -- at challenge 1 the permutations and R move, at challenge 2 R and v, at challenge 3 nothing
  abbrev pub remasked : List E → List E → Challenge → Mask → Mask
  remasked key key' One mask = mask_of (act relation mask.permutations (turning key' key)) (act relation (turning key key') mask.layers) mask.free mask.coins
  remasked key key' Two mask =
      mask_of mask.permutations (minus relation.q (plus relation.q mask.layers (relation.split_layers key)) (relation.split_layers key'))
      (minus relation.q (plus relation.q mask.free (relation.split_free key)) (relation.split_free key')) mask.coins
  remasked key key' Three mask = mask

  pub remasked_coins : (key key' : List E) (challenge : Challenge) (mask : Mask) → (remasked key key' challenge mask).coins ≡ mask.coins
  remasked_coins key key' One mask = refl
  remasked_coins key key' Two mask = refl
  remasked_coins key key' Three mask = refl

  module _ (laws : RelationLaws relation) (key key' : List E) (hk : Key relation key) (hk' : Key relation key') where
    split_rearranged : (j : ℕ) → j < relation.layer_count → Rearranged (layer relation.layer_len j (relation.split_layers key)) (layer relation.layer_len j (relation.split_layers key'))
    split_rearranged j l =
        laws.shape_alike j (layer relation.layer_len j (relation.split_layers key)) (layer relation.layer_len j (relation.split_layers key')) l
        (layer_residues relation.q relation.layer_len relation.layer_count (relation.split_layers key) j (laws.split_layers key hk) l)
        (layer_residues relation.q relation.layer_len relation.layer_count (relation.split_layers key') j (laws.split_layers key' hk') l)
        (laws.split_shaped key hk j l) (laws.split_shaped key' hk' j l)

    turning_permutations : Permutations relation.layer_len relation.layer_count (turning key key')
    turning_permutations =
        matched_permutations relation.layer_len relation.layer_count (relation.split_layers key) (relation.split_layers key') (laws.split_layers key hk).0 (laws.split_layers key' hk').0 split_rearranged

module _ {E : Type 0} (relation : RelationMeaning E) (laws : RelationLaws relation) (width : ℕ) (key key' : List E) (hk : Key relation key) (hk' : Key relation key') where
  pub remasked_well_formed : (challenge : Challenge) (mask : Mask) → WellFormed relation width mask → WellFormed relation width (remasked relation key key' challenge mask)
  remasked_well_formed One mask w = record {
    permutations =
        permuted_layers-permutations relation.layer_len relation.layer_count mask.permutations w.permutations (turning relation key' key) (turning_permutations relation laws key' key hk' hk);
    layers =
        permuted_layers_residues relation.layer_len relation.layer_count (turning relation key key') (turning_permutations relation laws key key' hk hk') relation.q mask.layers
        (modulus_positive relation laws) w.layers;
    free = w.free;
    coins = w.coins;
  }
  remasked_well_formed Two mask w = record {
    permutations = w.permutations;
    layers =
        minus_residues relation.q (relation.layer_count * relation.layer_len) (plus relation.q mask.layers (relation.split_layers key)) (relation.split_layers key')
        (modulus_positive relation laws)
        (plus_residues relation.q (relation.layer_count * relation.layer_len) mask.layers (relation.split_layers key) (modulus_positive relation laws) w.layers (laws.split_layers key hk))
        (laws.split_layers key' hk');
    free =
        minus_residues relation.q relation.free_len (plus relation.q mask.free (relation.split_free key)) (relation.split_free key') (modulus_positive relation laws)
        (plus_residues relation.q relation.free_len mask.free (relation.split_free key) (modulus_positive relation laws) w.free (laws.split_free key hk))
        (laws.split_free key' hk');
    coins = w.coins;
  }
  remasked_well_formed Three mask w = w

  module _ (mask : Mask) (w : WellFormed relation width mask) where
    -- challenge 2: R + E and v + s
    masked_layers_same : plus relation.q (remasked relation key key' Two mask).layers (relation.split_layers key') ≡ plus relation.q mask.layers (relation.split_layers key)
    masked_layers_same =
        plus-minus relation.q (relation.layer_count * relation.layer_len) (plus relation.q mask.layers (relation.split_layers key)) (relation.split_layers key')
        (plus_residues relation.q (relation.layer_count * relation.layer_len) mask.layers (relation.split_layers key) (modulus_positive relation laws) w.layers (laws.split_layers key hk))
        (laws.split_layers key' hk')

    masked_free_same : plus relation.q (remasked relation key key' Two mask).free (relation.split_free key') ≡ plus relation.q mask.free (relation.split_free key)
    masked_free_same =
        plus-minus relation.q relation.free_len (plus relation.q mask.free (relation.split_free key)) (relation.split_free key')
        (plus_residues relation.q relation.free_len mask.free (relation.split_free key) (modulus_positive relation laws) w.free (laws.split_free key hk))
        (laws.split_free key' hk')

    -- challenge 2: the image of R and v
    image_same : relation.image mask.layers mask.free ≡ relation.image (remasked relation key key' Two mask).layers (remasked relation key key' Two mask).free
    image_same =
        let w' : WellFormed relation width (remasked relation key key' Two mask) = remasked_well_formed Two mask w in
        sym (masked_image_less_target relation laws key hk mask.layers mask.free w.layers w.free)
        ∙ ap₂ (λ z u. minus relation.q (relation.image z u) relation.target) (sym masked_layers_same) (sym masked_free_same)
        ∙ masked_image_less_target relation laws key' hk' (remasked relation key key' Two mask).layers (remasked relation key key' Two mask).free w'.layers w'.free

    -- challenge 1: P(E), P(R) and P(R + E)
    permuted_key_same : act relation (remasked relation key key' One mask).permutations (relation.split_layers key') ≡ act relation mask.permutations (relation.split_layers key)
    permuted_key_same =
        permuted_layers_twice relation.layer_len relation.layer_count mask.permutations w.permutations (turning relation key' key) (relation.split_layers key')
        (turning_permutations relation laws key' key hk' hk)
        ∙ ap (act relation mask.permutations)
        (permuted_layers_matched relation.layer_len relation.layer_count (relation.split_layers key') (relation.split_layers key) (laws.split_layers key' hk').0 (laws.split_layers key hk).0
        (split_rearranged relation laws key' key hk' hk))

    turned_back : act relation (turning relation key' key) (act relation (turning relation key key') mask.layers) ≡ mask.layers
    turned_back =
        permuted_layers_matched_back relation.layer_len relation.layer_count (relation.split_layers key') (relation.split_layers key) (laws.split_layers key' hk').0
        (laws.split_layers key hk).0 (split_rearranged relation laws key' key hk' hk) mask.layers w.layers.0

    permuted_mask_same : act relation (remasked relation key key' One mask).permutations (remasked relation key key' One mask).layers ≡ act relation mask.permutations mask.layers
    permuted_mask_same =
        permuted_layers_twice relation.layer_len relation.layer_count mask.permutations w.permutations (turning relation key' key) (remasked relation key key' One mask).layers
        (turning_permutations relation laws key' key hk' hk)
        ∙ ap (act relation mask.permutations) turned_back

    permuted-sum_same : act relation (remasked relation key key' One mask).permutations (plus relation.q (remasked relation key key' One mask).layers (relation.split_layers key'))
        ≡ act relation mask.permutations (plus relation.q mask.layers (relation.split_layers key))
    permuted-sum_same =
        let w' : WellFormed relation width (remasked relation key key' One mask) = remasked_well_formed One mask w in
        permuted_layers-plus relation.layer_len relation.layer_count (remasked relation key key' One mask).permutations w'.permutations relation.q
        (remasked relation key key' One mask).layers (relation.split_layers key') (modulus_positive relation laws) w'.layers (laws.split_layers key' hk')
        ∙ ap₂ (plus relation.q) permuted_mask_same permuted_key_same
        ∙ sym (permuted_layers-plus relation.layer_len relation.layer_count mask.permutations w.permutations relation.q mask.layers (relation.split_layers key)
        (modulus_positive relation laws) w.layers (laws.split_layers key hk))

  pub remasked_back : (challenge : Challenge) (mask : Mask) → WellFormed relation width mask → remasked relation key' key challenge (remasked relation key key' challenge mask) ≡ mask
  remasked_back One mask w =
      ap₂ (λ p r. mask_of p r mask.free mask.coins)
      (permuted_layers_matched_cancels relation.layer_len relation.layer_count (relation.split_layers key') (relation.split_layers key) (laws.split_layers key' hk').0
      (laws.split_layers key hk).0 (split_rearranged relation laws key' key hk' hk) mask.permutations w.permutations)
      (turned_back mask w)
  remasked_back Two mask w =
      ap₂ (λ r v. mask_of mask.permutations r v mask.coins)
      (ap (λ xs. minus relation.q xs (relation.split_layers key)) (masked_layers_same mask w)
      ∙ minus_plus relation.q (relation.layer_count * relation.layer_len) mask.layers (relation.split_layers key) w.layers (laws.split_layers key hk))
      (ap (λ xs. minus relation.q xs (relation.split_free key)) (masked_free_same mask w)
      ∙ minus_plus relation.q relation.free_len mask.free (relation.split_free key) w.free (laws.split_free key hk))
  remasked_back Three mask w = refl

module _ {E : Type 0} (relation : RelationMeaning E) (laws : RelationLaws relation) (scheme : SchemeMeaning) where
  module _ (key key' : List E) (hk : Key relation key) (hk' : Key relation key') where
    pub remasked_answer : (challenge : Challenge) (mask : Mask) → WellFormed relation scheme.width mask
        → answer relation scheme key mask challenge ≡ answer relation scheme key' (remasked relation key key' challenge mask) challenge
    remasked_answer One mask w =
        ap₂ (λ e r. to_first e r (coin_string scheme.width 1 mask.coins) (coin_string scheme.width 2 mask.coins))
        (sym (permuted_key_same relation laws scheme.width key key' hk hk' mask w)) (sym (permuted_mask_same relation laws scheme.width key key' hk hk' mask w))
    remasked_answer Two mask w =
        ap₂ (λ z u. to_second mask.permutations z u (coin_string scheme.width 0 mask.coins) (coin_string scheme.width 2 mask.coins))
        (sym (masked_layers_same relation laws scheme.width key key' hk hk' mask w)) (sym (masked_free_same relation laws scheme.width key key' hk hk' mask w))
    remasked_answer Three mask w = refl

    pub remasked_opened : (challenge : Challenge) (mask : Mask) → WellFormed relation scheme.width mask
        → opened relation scheme challenge (commitments relation scheme key mask) ≡ opened relation scheme challenge (commitments relation scheme key' (remasked relation key key' challenge mask))
    remasked_opened One mask w =
        ap₂ (λ r z. (scheme.value (coin_string scheme.width 1 mask.coins) (bytes r), scheme.value (coin_string scheme.width 2 mask.coins) (bytes z)))
        (sym (permuted_mask_same relation laws scheme.width key key' hk hk' mask w)) (sym (permuted-sum_same relation laws scheme.width key key' hk hk' mask w))
    remasked_opened Two mask w =
        ap₂ (λ y z. (
          scheme.value (coin_string scheme.width 0 mask.coins) (with_image relation mask.permutations y),
          scheme.value (coin_string scheme.width 2 mask.coins) (bytes (act relation mask.permutations z)),
        ))
        (image_same relation laws scheme.width key key' hk hk' mask w) (sym (masked_layers_same relation laws scheme.width key key' hk hk' mask w))
    remasked_opened Three mask w = refl

  pub hiding : Hiding relation scheme
  hiding key key' challenge hk hk' = record {
    to = remasked relation key key' challenge;
    back = remasked relation key' key challenge;
    coins_kept = remasked_coins relation key key' challenge;
    to_well = remasked_well_formed relation laws scheme.width key key' hk hk' challenge;
    back_well = remasked_well_formed relation laws scheme.width key' key hk' hk challenge;
    back_to = remasked_back relation laws scheme.width key key' hk hk' challenge;
    to_back = remasked_back relation laws scheme.width key' key hk' hk challenge;
    answers = remasked_answer key key' hk hk' challenge;
    openings = remasked_opened key key' hk hk' challenge;
  }
