-- What holds of the three moves, for every relation and every scheme.
use Rattle.std.specs.Prelude.{◌≡◌, ℕ, ◌≤◌, true, ◌≢◌, ◌⊎◌, List, length}
use Rattle.vectors.specs.Residues.{minus}
use Rattle.relation.specs.Meaning.{RelationMeaning, Key, Layers, Free, Shaped}
use Rattle.commitment.specs.Meaning.{SchemeMeaning}
use Rattle.masks.specs.Mask.{Mask, WellFormed}
use Rattle.messages.specs.declared.challenge.Challenge.{Challenge}
use Rattle.messages.specs.Contents.{to_first, to_second, to_third}
use Rattle.moves.specs.Moves.{Triple, numbered, commitments, answer, opened, Accepts}

-- two different messages that open one commitment, under coins of the scheme's width
pub record Broken (scheme : SchemeMeaning) (commitment : List ℕ) : Type 0 where
  pub coins : List ℕ
  pub coins' : List ℕ
  pub message : List ℕ
  pub message' : List ℕ
  pub width : length coins ≡ scheme.width
  pub width' : length coins' ≡ scheme.width
  pub opens : commitment ≡ scheme.value coins message
  pub opens' : commitment ≡ scheme.value coins' message'
  pub differ : message ≢ message'

-- layers and a free part with every shape and the target as image, which gather turns into an extracted key
pub record Extracts {E : Type 0} (relation : RelationMeaning E) (zs t : List ℕ) : Type 0 where
  pub layers : Layers relation zs
  pub free : Free relation t
  pub shaped : Shaped relation zs
  pub image : relation.image zs t ≡ relation.target
  pub key : relation.extracted (relation.gather zs t) ≡ true

module _ {E : Type 0} (relation : RelationMeaning E) (scheme : SchemeMeaning) where
  -- the answer made from a key of the statement and a well-formed mask is accepted
  abbrev pub Complete : Type 0
  Complete = (key : List E) (mask : Mask) (challenge : Challenge) → Key relation key → WellFormed relation scheme.width mask
      → Accepts relation scheme (commitments relation scheme key mask) (answer relation scheme key mask challenge)

  -- three accepted answers to the same commitments give an extracted key, or one of these commitments is broken
  abbrev pub Sound : Type 0
  Sound = (c : Triple) (e r a b p z u a' b' p'' r'' v'' a'' b'' : List ℕ)
      → Accepts relation scheme c (to_first e r a b) → Accepts relation scheme c (to_second p z u a' b') → Accepts relation scheme c (to_third p'' r'' v'' a'' b'')
      → Extracts relation (minus relation.q z r'') (minus relation.q u v'') ⊎ ((n : ℕ) × (1 ≤ n) × (n ≤ 3) × Broken scheme (numbered c n))

  -- a map of masks with its inverse, under which the coins, the answer and the opened commitments stay the same
  pub record Paired (key key' : List E) (challenge : Challenge) : Type 0 where
    pub to : Mask → Mask
    pub back : Mask → Mask
    pub coins_kept : (mask : Mask) → (to mask).coins ≡ mask.coins
    pub to_well : (mask : Mask) → WellFormed relation scheme.width mask → WellFormed relation scheme.width (to mask)
    pub back_well : (mask : Mask) → WellFormed relation scheme.width mask → WellFormed relation scheme.width (back mask)
    pub back_to : (mask : Mask) → WellFormed relation scheme.width mask → back (to mask) ≡ mask
    pub to_back : (mask : Mask) → WellFormed relation scheme.width mask → to (back mask) ≡ mask
    pub answers : (mask : Mask) → WellFormed relation scheme.width mask → answer relation scheme key mask challenge ≡ answer relation scheme key' (to mask) challenge
    pub openings : (mask : Mask) → WellFormed relation scheme.width mask
        → opened relation scheme challenge (commitments relation scheme key mask) ≡ opened relation scheme challenge (commitments relation scheme key' (to mask))

  -- for two keys of the statement and each challenge the well-formed masks pair one to one
  abbrev pub Hiding : Type 0
  Hiding = (key key' : List E) (challenge : Challenge) → Key relation key → Key relation key' → Paired key key' challenge
