-- When the calls of a relation refuse.
use Rattle.std.specs.Prelude.{ℕ, ◌*◌, Bool, cond, ◌&&◌, List, length, Some, None, Option, ◌==◌, nat_lt}
use Rattle.vectors.specs.Residues.{below}
use Rattle.vectors.specs.Lists.{same}
use Rattle.relation.specs.Meaning.{RelationMeaning, shapes}

module _ {E : Type 0} (relation : RelationMeaning E) where
  -- layers and a free part of the right lengths, all residues
  abbrev pub whole : List ℕ → List ℕ → Bool
  whole zs t =
      (length zs == relation.layer_count * relation.layer_len) && (length t == relation.free_len && (below relation.q zs && below relation.q t))

  abbrev pub shape_fault : ℕ → List ℕ → Option ℕ
  shape_fault j xs = cond (nat_lt j relation.layer_count && (length xs == relation.layer_len && below relation.q xs)) None (Some 16)

  abbrev pub image_fault : List ℕ → List ℕ → ℕ → Option ℕ
  image_fault zs t out_len = cond (out_len == relation.image_len && whole zs t) None (Some 16)

  abbrev pub target_fault : ℕ → Option ℕ
  target_fault out_len = cond (out_len == relation.image_len) None (Some 16)

  abbrev pub split_fault : List E → ℕ → ℕ → Option ℕ
  split_fault key layers_len free_len =
      cond (layers_len == relation.layer_count * relation.layer_len && free_len == relation.free_len) (relation.key_fault key) (Some 16)

  abbrev pub gather_fault : List ℕ → List ℕ → ℕ → Option ℕ
  gather_fault zs t key_len =
      cond (key_len == relation.key_len && whole zs t)
      (cond (shapes relation relation.layer_count zs && same (relation.image zs t) relation.target) None (Some 25))
      (Some 16)
