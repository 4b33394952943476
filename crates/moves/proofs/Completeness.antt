-- The answer that is made from a key and a mask is accepted.
use Rattle.std.proofs.Common.{◌≡◌, ℕ, ◌*◌, ◌<◌, List, length, sym, refl, ap, ◌∙◌, arith}
use Rattle.vectors.specs.Words.{bytes}
use Rattle.vectors.specs.Residues.{plus, minus}
use Rattle.vectors.specs.Layers.{layer}
use Rattle.vectors.proofs.Sums.{plus_comm, plus_residues, minus_plus}
use Rattle.vectors.proofs.Layers.{length-layer, layer_residues}
use Rattle.vectors.proofs.Actions.{permuted_layers_rearranged, permuted_layers_residues, permuted_layers-plus}
use Rattle.relation.specs.Meaning.{RelationMeaning, Key, Layers, Free}
use Rattle.relation.specs.Laws.{RelationLaws}
use Rattle.commitment.specs.Meaning.{SchemeMeaning}
use Rattle.masks.specs.Mask.{coin_string}
use Rattle.messages.specs.declared.challenge.Challenge.TheVariants.{One, Two, Three}
use Rattle.moves.specs.Moves.{act, with_image}
use Rattle.moves.specs.Claims.{Complete}

pub length-coin_string : (width : ℕ) (coins : List ℕ) (i : ℕ) → length coins ≡ 3 * width → i < 3 → length (coin_string width i coins) ≡ width
length-coin_string width coins i e l = length-layer width 3 coins i e l

module _ {E : Type 0} (relation : RelationMeaning E) (laws : RelationLaws relation) where
  pub modulus_positive : 0 < relation.q
  modulus_positive = omega (arith, laws.q_range)

  -- the image of R + E and v + s, less the target, is the image of R and v
  pub masked_image_less_target : (key : List E) → Key relation key → (r v : List ℕ) → Layers relation r → Free relation v
      → minus relation.q (relation.image (plus relation.q r (relation.split_layers key)) (plus relation.q v (relation.split_free key))) relation.target ≡ relation.image r v
  masked_image_less_target key hk r v hr hv =
      ap (λ xs. minus relation.q xs relation.target) (laws.image_plus r (relation.split_layers key) v (relation.split_free key) hr (laws.split_layers key hk) hv (laws.split_free key hk))
      ∙ ap (λ xs. minus relation.q (plus relation.q (relation.image r v) xs) relation.target) (laws.split_image key hk)
      ∙ minus_plus relation.q relation.image_len (relation.image r v) relation.target (laws.image_residues r v hr hv) laws.target_residues

  module _ (scheme : SchemeMeaning) where
    pub complete : Complete relation scheme
    complete key mask One hk w =
        let e : Layers relation (relation.split_layers key) = laws.split_layers key hk in
        record {
          fields = (
            permuted_layers_residues relation.layer_len relation.layer_count mask.permutations w.permutations relation.q (relation.split_layers key) modulus_positive e,
            permuted_layers_residues relation.layer_len relation.layer_count mask.permutations w.permutations relation.q mask.layers modulus_positive w.layers,
            length-coin_string scheme.width mask.coins 1 w.coins (omega arith),
            length-coin_string scheme.width mask.coins 2 w.coins (omega arith),
          );
          shapes = λ j l.
              sym (laws.shape_rearranged j (layer relation.layer_len j (relation.split_layers key)) (layer relation.layer_len j (act relation mask.permutations (relation.split_layers key))) l
              (layer_residues relation.q relation.layer_len relation.layer_count (relation.split_layers key) j e l)
              (λ x. sym (permuted_layers_rearranged relation.layer_len relation.layer_count mask.permutations w.permutations (relation.split_layers key) e.0 j l x)))
              ∙ laws.split_shaped key hk j l;
          first = refl;
          second =
              ap (λ xs. scheme.value (coin_string scheme.width 2 mask.coins) (bytes xs))
              (permuted_layers-plus relation.layer_len relation.layer_count mask.permutations w.permutations relation.q mask.layers (relation.split_layers key) modulus_positive w.layers e
              ∙ plus_comm relation.q (act relation mask.permutations mask.layers) (act relation mask.permutations (relation.split_layers key)));
        }
    complete key mask Two hk w =
        record {
          fields = (
            w.permutations,
            plus_residues relation.q (relation.layer_count * relation.layer_len) mask.layers (relation.split_layers key) modulus_positive w.layers (laws.split_layers key hk),
            plus_residues relation.q relation.free_len mask.free (relation.split_free key) modulus_positive w.free (laws.split_free key hk),
            length-coin_string scheme.width mask.coins 0 w.coins (omega arith),
            length-coin_string scheme.width mask.coins 2 w.coins (omega arith),
          );
          shapes = tt;
          first =
              ap (λ xs. scheme.value (coin_string scheme.width 0 mask.coins) (with_image relation mask.permutations xs))
              (sym (masked_image_less_target key hk mask.layers mask.free w.layers w.free));
          second = refl;
        }
    complete key mask Three hk w =
        record {
          fields = (
            w.permutations,
            w.layers,
            w.free,
            length-coin_string scheme.width mask.coins 0 w.coins (omega arith),
            length-coin_string scheme.width mask.coins 1 w.coins (omega arith),
          );
          shapes = tt;
          first = refl;
          second = refl;
        }
