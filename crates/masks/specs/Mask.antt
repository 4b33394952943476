-- Masks: the randomness of one identification.
use Rattle.std.specs.Prelude.{◌≡◌, ℕ, ◌*◌, Bool, cond, not, ◌&&◌, List, length, is_some, Some, None, Option, ◌==◌}
use Rattle.vectors.specs.Layers.{Permutations, layer, first_failing}
use Rattle.vectors.specs.Permutations.{permutes}
use Rattle.vectors.specs.Residues.{below}
use Rattle.relation.specs.Meaning.{RelationMeaning, Layers, Free}

pub record Mask : Type 0 where
  -- P: a list of positions for each layer, one after another
  pub permutations : List ℕ
  -- R
  pub layers : List ℕ
  -- v
  pub free : List ℕ
  -- three strings of the scheme's width, one after another
  pub coins : List ℕ

-- a mask from its four parts
abbrev pub mask_of : List ℕ → List ℕ → List ℕ → List ℕ → Mask
mask_of permutations layers free coins = record { permutations = permutations; layers = layers; free = free; coins = coins }

-- coins 1 to 3 are the strings 0 to 2
abbrev pub coin_string : ℕ → ℕ → List ℕ → List ℕ
coin_string width i coins = layer width i coins

module _ {E : Type 0} (relation : RelationMeaning E) (width : ℕ) where
  -- each list of positions is a permutation, and each residue is below q
  pub record WellFormed (mask : Mask) : Type 0 where
    pub permutations : Permutations relation.layer_len relation.layer_count mask.permutations
    pub layers : Layers relation mask.layers
    pub free : Free relation mask.free
    pub coins : length mask.coins ≡ 3 * width

  -- whether the parts have the right lengths
  abbrev pub sized : Mask → Bool
  sized mask =
      (length mask.permutations == relation.layer_count * relation.layer_len) && (length mask.layers == relation.layer_count * relation.layer_len && (length mask.free == relation.free_len && length mask.coins == 3 * width))

  -- whether lists of positions are permutations and residues are below q
  abbrev pub sound : Mask → Bool
  sound mask =
      not (is_some (first_failing (λ j. permutes relation.layer_len) relation.layer_len 0 relation.layer_count mask.permutations)) && (below relation.q mask.layers && below relation.q mask.free)

  abbrev pub mask_fault : Mask → Option ℕ
  mask_fault mask = cond (sized mask) (cond (sound mask) None (Some 33)) (Some 32)
