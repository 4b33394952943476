-- Worked examples of the three relations: small statements, with keys inside and outside them, and the layers of a key.
use Rattle.std.specs.Prelude.{◌≡◌, [], ◌∷◌, pos, negsuc, Some, None}
use Rattle.vectors.specs.Permutations.{permuted}
use Rattle.vectors.specs.Residues.{plus}
use Rattle.vectors.specs.Layers.{layer}
use Rattle.relation_laws.specs.Statements.{Statement, weight_fault, short_fault, noise_fault}
use Rattle.relation_laws.specs.Weight.{weight}
use Rattle.relation_laws.specs.Short.{short}
use Rattle.relation_laws.specs.Noise.{noise}

-- keys of two ones with k₁ + 2·k₂ + 3·k₃ + 4·k₄ = 0 modulo 5
abbrev pub two_ones : Statement
two_ones = record { q = 5; rows = 1; columns = 4; bound = 2; matrix = 1 ∷ 2 ∷ 3 ∷ 4 ∷ []; target = 0 ∷ [] }

-- keys of two numbers from −5 to 5 with k₁ + 2·k₂ = 10 modulo 11
abbrev pub up_to_five : Statement
up_to_five = record { q = 11; rows = 1; columns = 2; bound = 5; matrix = 1 ∷ 2 ∷ []; target = 10 ∷ [] }

-- keys of two bits for which k₁, k₂, k₁ + k₂ and k₁ are 1 modulo 2 in all but one place
abbrev pub one_wrong : Statement
one_wrong = record { q = 2; rows = 4; columns = 2; bound = 1; matrix = 1 ∷ 0 ∷ 0 ∷ 1 ∷ 1 ∷ 1 ∷ 1 ∷ 0 ∷ []; target = 1 ∷ 1 ∷ 1 ∷ 1 ∷ [] }

pub record Examples : Type 0 where
  pub weight_made : weight_fault two_ones ≡ None
  pub weight_outer : (weight two_ones).key_fault (1 ∷ 0 ∷ 0 ∷ 1 ∷ []) ≡ None
  pub weight_inner : (weight two_ones).key_fault (0 ∷ 1 ∷ 1 ∷ 0 ∷ []) ≡ None
  pub weight_wrong_image : (weight two_ones).key_fault (1 ∷ 1 ∷ 0 ∷ 0 ∷ []) ≡ Some 24
  pub weight_one_too_few : (weight two_ones).key_fault (1 ∷ 0 ∷ 0 ∷ 0 ∷ []) ≡ Some 23
  pub weight_no_bit : (weight two_ones).key_fault (2 ∷ 0 ∷ 0 ∷ 0 ∷ []) ≡ Some 22
  pub weight_rotated : permuted (1 ∷ 2 ∷ 3 ∷ 0 ∷ []) (1 ∷ 0 ∷ 0 ∷ 1 ∷ []) ≡ 0 ∷ 0 ∷ 1 ∷ 1 ∷ []
  pub weight_mask_image : (weight two_ones).image (1 ∷ 2 ∷ 3 ∷ 4 ∷ []) [] ≡ 0 ∷ []
  -- two masks, one for each key, with the same masked layers
  pub weight_masked_outer : plus 5 (1 ∷ 2 ∷ 3 ∷ 4 ∷ []) ((weight two_ones).split_layers (1 ∷ 0 ∷ 0 ∷ 1 ∷ [])) ≡ 2 ∷ 2 ∷ 3 ∷ 0 ∷ []
  pub weight_masked_inner : plus 5 (2 ∷ 1 ∷ 2 ∷ 0 ∷ []) ((weight two_ones).split_layers (0 ∷ 1 ∷ 1 ∷ 0 ∷ [])) ≡ 2 ∷ 2 ∷ 3 ∷ 0 ∷ []
  pub short_made : short_fault up_to_five ≡ None
  pub short_key : (short up_to_five).key_fault (pos 5 ∷ negsuc 2 ∷ []) ≡ None
  pub short_first_layer : layer 6 0 ((short up_to_five).split_layers (pos 5 ∷ negsuc 2 ∷ [])) ≡ 1 ∷ 10 ∷ 10 ∷ 0 ∷ 0 ∷ 1 ∷ []
  pub noise_made : noise_fault one_wrong ≡ None
  pub noise_both : (noise one_wrong).key_fault (1 ∷ 1 ∷ []) ≡ None
  pub noise_first : (noise one_wrong).key_fault (1 ∷ 0 ∷ []) ≡ None
  pub noise_neither : (noise one_wrong).key_fault (0 ∷ 0 ∷ []) ≡ Some 23
  pub noise_second : (noise one_wrong).key_fault (0 ∷ 1 ∷ []) ≡ Some 23
