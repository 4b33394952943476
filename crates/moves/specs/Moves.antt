-- The three moves: what is committed to, what is answered, and when an answer is accepted.
use Rattle.std.specs.Prelude.{◌≡◌, ℕ, ◌-◌, List, [], ◌∷◌, ◌++◌, length, slice_index_or}
use Rattle.vectors.specs.Words.{bytes}
use Rattle.vectors.specs.Residues.{plus, minus}
use Rattle.vectors.specs.Layers.{permuted_layers, Permutations}
use Rattle.relation.specs.Meaning.{RelationMeaning, Layers, Free, Shaped}
use Rattle.commitment.specs.Meaning.{SchemeMeaning}
use Rattle.masks.specs.Mask.{Mask, coin_string}
use Rattle.messages.specs.declared.challenge.Challenge.{Challenge}
use Rattle.messages.specs.declared.challenge.Challenge.TheVariants.{One, Two, Three}
use Rattle.messages.specs.Contents.{Said, to_first, to_second, to_third}

-- three commitments
pub record Triple : Type 0 where
  pub one : List ℕ
  pub two : List ℕ
  pub three : List ℕ

-- commitment 1, 2 or 3
abbrev pub numbered : Triple → ℕ → List ℕ
numbered c n = slice_index_or (c.one ∷ c.two ∷ c.three ∷ []) (n - 1) []

-- coins and a message, shown for the commitment with this number
pub record Opening : Type 0 where
  pub number : ℕ
  pub coins : List ℕ
  pub message : List ℕ

module _ {E : Type 0} (relation : RelationMeaning E) where
  -- permutation j moves layer j
  abbrev pub act : List ℕ → List ℕ → List ℕ
  act permutations layers = permuted_layers relation.layer_len relation.layer_count permutations layers

  -- M1 is the permutations, then the image of R and v
  abbrev pub with_image : List ℕ → List ℕ → List ℕ
  with_image permutations image = bytes (permutations ++ image)

  abbrev pub message_1 : Mask → List ℕ
  message_1 mask = with_image mask.permutations (relation.image mask.layers mask.free)

  -- M2 is P(R)
  abbrev pub message_2 : Mask → List ℕ
  message_2 mask = bytes (act mask.permutations mask.layers)

  -- M3 is P(R + E)
  abbrev pub message_3 : List E → Mask → List ℕ
  message_3 key mask = bytes (act mask.permutations (plus relation.q mask.layers (relation.split_layers key)))

  -- what the fields of an answer show: the coins and the message of two commitments
  abbrev pub openings : Said → Opening × Opening
  openings (to_first e r coins_2 coins_3) =
      (record { number = 2; coins = coins_2; message = bytes r }, record { number = 3; coins = coins_3; message = bytes (plus relation.q e r) })
  openings (to_second p z u coins_1 coins_3) = (
    record { number = 1; coins = coins_1; message = with_image p (minus relation.q (relation.image z u) relation.target) },
    record { number = 3; coins = coins_3; message = bytes (act p z) },
  )
  openings (to_third p r v coins_1 coins_2) =
      (record { number = 1; coins = coins_1; message = with_image p (relation.image r v) }, record { number = 2; coins = coins_2; message = bytes (act p r) })

  -- only the answer to challenge 1 shows shapes
  abbrev pub Shapes : Said → Type 0
  Shapes (to_first e r coins_2 coins_3) = Shaped relation e
  Shapes (to_second p z u coins_1 coins_3) = Unit {0}
  Shapes (to_third p r v coins_1 coins_2) = Unit {0}

module _ {E : Type 0} (relation : RelationMeaning E) (scheme : SchemeMeaning) where
  -- commitment i is the scheme's value for coins i and message i
  abbrev pub commitments : List E → Mask → Triple
  commitments key mask = record {
    one = scheme.value (coin_string scheme.width 0 mask.coins) (message_1 relation mask);
    two = scheme.value (coin_string scheme.width 1 mask.coins) (message_2 relation mask);
    three = scheme.value (coin_string scheme.width 2 mask.coins) (message_3 relation key mask);
  }

  abbrev pub answer : List E → Mask → Challenge → Said
  answer key mask One =
      to_first (act relation mask.permutations (relation.split_layers key)) (act relation mask.permutations mask.layers)
      (coin_string scheme.width 1 mask.coins) (coin_string scheme.width 2 mask.coins)
  answer key mask Two =
      to_second mask.permutations (plus relation.q mask.layers (relation.split_layers key)) (plus relation.q mask.free (relation.split_free key))
      (coin_string scheme.width 0 mask.coins) (coin_string scheme.width 2 mask.coins)
  answer key mask Three =
      to_third mask.permutations mask.layers mask.free
      (coin_string scheme.width 0 mask.coins) (coin_string scheme.width 1 mask.coins)

  -- the two commitments that the answer to a challenge opens
  abbrev pub opened : Challenge → Triple → List ℕ × List ℕ
  opened One c = (c.two, c.three)
  opened Two c = (c.one, c.three)
  opened Three c = (c.one, c.two)

  -- coins and a message open the commitment that is their value
  abbrev pub Opens : Triple → Opening → Type 0
  Opens c o = numbered c o.number ≡ scheme.value o.coins o.message

  -- fields of the right lengths, residues below q, lists of positions that are permutations
  abbrev pub Fields : Said → Type 0
  Fields (to_first e r coins_2 coins_3) = Layers relation e × Layers relation r × (length coins_2 ≡ scheme.width) × (length coins_3 ≡ scheme.width)
  Fields (to_second p z u coins_1 coins_3) =
      Permutations relation.layer_len relation.layer_count p × Layers relation z × Free relation u × (length coins_1 ≡ scheme.width) × (length coins_3 ≡ scheme.width)
  Fields (to_third p r v coins_1 coins_2) =
      Permutations relation.layer_len relation.layer_count p × Layers relation r × Free relation v × (length coins_1 ≡ scheme.width) × (length coins_2 ≡ scheme.width)

  -- the checks of an answer against commitments
  pub record Accepts (c : Triple) (said : Said) : Type 0 where
    pub fields : Fields said
    pub shapes : Shapes relation said
    pub first : Opens c (openings relation said).0
    pub second : Opens c (openings relation said).1
