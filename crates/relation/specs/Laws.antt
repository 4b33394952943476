-- The laws that every relation shows.
use Rattle.std.specs.Prelude.{◌≡◌, ℕ, ◌<◌, ◌≤◌, true, List, Some}
use Rattle.vectors.specs.Counts.{Rearranged}
use Rattle.vectors.specs.Residues.{Residues, plus}
use Rattle.relation.specs.Meaning.{RelationMeaning, Key, Layers, Free, Shaped}

pub record RelationLaws {E : Type 0} (relation : RelationMeaning E) : Type 0 where
  pub q_range : (2 ≤ relation.q) × (relation.q ≤ 65535)
  pub layer_count_range : (1 ≤ relation.layer_count) × (relation.layer_count ≤ 15)
  pub layer_len_range : (1 ≤ relation.layer_len) × (relation.layer_len ≤ 768)
  pub free_len_range : relation.free_len ≤ 256
  pub image_len_range : (1 ≤ relation.image_len) × (relation.image_len ≤ 128)
  -- shape says the same of a layer and of each rearrangement of it
  pub shape_rearranged : (j : ℕ) (xs ys : List ℕ) → j < relation.layer_count → Residues relation.q relation.layer_len xs → Rearranged xs ys → relation.shape j xs ≡ relation.shape j ys
  -- two layers with shape j are rearrangements of each other
  pub shape_alike : (j : ℕ) (xs ys : List ℕ) → j < relation.layer_count → Residues relation.q relation.layer_len xs → Residues relation.q relation.layer_len ys → relation.shape j xs ≡ true → relation.shape j ys ≡ true → Rearranged xs ys
  pub target_residues : Residues relation.q relation.image_len relation.target
  pub image_residues : (zs t : List ℕ) → Layers relation zs → Free relation t → Residues relation.q relation.image_len (relation.image zs t)
  -- the image of a sum is the sum of the images
  pub image_plus : (zs zs' t t' : List ℕ) → Layers relation zs → Layers relation zs' → Free relation t → Free relation t' → relation.image (plus relation.q zs zs') (plus relation.q t t') ≡ plus relation.q (relation.image zs t) (relation.image zs' t')
  -- what split gives has every shape, and its image is the target
  pub split_layers : (key : List E) → Key relation key → Layers relation (relation.split_layers key)
  pub split_free : (key : List E) → Key relation key → Free relation (relation.split_free key)
  pub split_shaped : (key : List E) → Key relation key → Shaped relation (relation.split_layers key)
  pub split_image : (key : List E) → Key relation key → relation.image (relation.split_layers key) (relation.split_free key) ≡ relation.target
  -- what gather gives is an extracted key
  pub gather_extracted : (zs t : List ℕ) → Layers relation zs → Free relation t → Shaped relation zs → relation.image zs t ≡ relation.target → relation.extracted (relation.gather zs t) ≡ true
  -- gather undoes split
  pub gather_split : (key : List E) → Key relation key → relation.gather (relation.split_layers key) (relation.split_free key) ≡ key

-- a value that is no key of the statement is refused by one of the key's numbers
module _ {E : Type 0} (relation : RelationMeaning E) where
  abbrev pub KeyNumbers : Type 0
  KeyNumbers = (key : List E) (n : ℕ) → relation.key_fault key ≡ Some n → (21 ≤ n) × (n ≤ 24)
