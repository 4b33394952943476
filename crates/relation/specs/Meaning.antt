-- What a relation means: its numbers, its keys, and shape, image, target, split and gather as functions.
use Rattle.std.specs.Prelude.{◌≡◌, ℕ, zero, suc, ◌*◌, ◌<◌, Bool, true, ◌&&◌, List, None, Option}
use Rattle.vectors.specs.Residues.{Residues}
use Rattle.vectors.specs.Layers.{layer}

-- E is the relation's own kind of key entry
pub record RelationMeaning (E : Type 0) : Type 0 where
  -- the modulus
  pub q : ℕ
  pub key_len : ℕ
  -- how many layers there are, and the length of each
  pub layer_count : ℕ
  pub layer_len : ℕ
  pub free_len : ℕ
  pub image_len : ℕ
  -- whether a list has the entries of layer j, in any order
  pub shape : ℕ → List ℕ → Bool
  -- of layers, one after another, and a free part
  pub image : List ℕ → List ℕ → List ℕ
  pub target : List ℕ
  -- the number by which a key outside the statement is refused; none for a key of the statement
  pub key_fault : List E → Option ℕ
  pub split_layers : List E → List ℕ
  pub split_free : List E → List ℕ
  pub gather : List ℕ → List ℕ → List E
  -- whether this is an extracted key
  pub extracted : List E → Bool

module _ {E : Type 0} (relation : RelationMeaning E) where
  -- a key of the statement (the witness)
  abbrev pub Key : List E → Type 0
  Key key = relation.key_fault key ≡ None

  -- all layers, one after another
  abbrev pub Layers : List ℕ → Type 0
  Layers zs = Residues relation.q (relation.layer_count * relation.layer_len) zs

  abbrev pub Free : List ℕ → Type 0
  Free t = Residues relation.q relation.free_len t

  -- each layer has its shape
  abbrev pub Shaped : List ℕ → Type 0
  Shaped zs = (j : ℕ) → j < relation.layer_count → relation.shape j (layer relation.layer_len j zs) ≡ true

  -- whether each of the first n layers has its shape
  abbrev pub shapes : ℕ → List ℕ → Bool
  shapes zero zs = true
  shapes (suc n) zs = shapes n zs && relation.shape n (layer relation.layer_len n zs)
