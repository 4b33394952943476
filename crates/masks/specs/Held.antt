-- The mask that the code's structs hold.
use Rattle.std.specs.Prelude.{◌≡◌}
use Rattle.masks.specs.Mask.{Mask, mask_of}
use Rattle.masks.specs.declared.mask.Mask.{Mask as MaskParts}
use Rattle.masks.specs.declared.mask.MaskMut.{MaskMut}

abbrev pub mask_in : MaskParts → Mask
mask_in parts = mask_of parts.permutations.now parts.layers.now parts.free.now parts.coins.now

-- at the places that a draw is lent
abbrev pub mask_at : MaskMut → Mask
mask_at places = mask_of places.permutations.now places.layers.now places.free.now places.coins.now

-- the references still point to the same places
pub record SamePlaces (old new : MaskMut) : Type 0 where
  pub permutations : new.permutations.ghost_name ≡ old.permutations.ghost_name
  pub layers : new.layers.ghost_name ≡ old.layers.ghost_name
  pub free : new.free.ghost_name ≡ old.free.ghost_name
  pub coins : new.coins.ghost_name ≡ old.coins.ghost_name
