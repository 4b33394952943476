-- Lengths that the moves ask for, and when a side refuses because one is short.
use Rattle.std.specs.Prelude.{ℕ, ◌+◌, ◌*◌, cond, List, [], ◌∷◌, Some, None, Option, nat_lt}
use Rattle.relation.specs.Meaning.{RelationMeaning}
use Rattle.commitment.specs.Meaning.{SchemeMeaning}
use Rattle.messages.specs.Reading.{Slot}

-- the length of a message with these fields
abbrev pub total_size : List Slot → ℕ
total_size [] = 0
total_size (slot ∷ slots) = 3 + slot.size + total_size slots

module _ {E : Type 0} (relation : RelationMeaning E) where
  -- how many residues the work area holds: all layers and a free part
  abbrev pub work_size : ℕ
  work_size = relation.layer_count * relation.layer_len + relation.free_len

  -- the length of the longest message that is committed to: the permutations and an image
  abbrev pub committed_size : ℕ
  committed_size = 2 * (relation.layer_count * relation.layer_len) + 2 * relation.image_len

  -- 56: the scheme does not take that message
  abbrev pub limit_fault : SchemeMeaning → Option ℕ
  limit_fault scheme = cond (nat_lt scheme.limit committed_size) (Some 56) None

  -- 37: the work area is short
  abbrev pub work_fault : ℕ → Option ℕ
  work_fault work = cond (nat_lt work work_size) (Some 37) None
