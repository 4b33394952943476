-- What draw promises of the parts that it was lent.
use Rattle.std.specs.Prelude.{◌≡◌, ℕ, ◌+◌, cond, List, length, Some, None, Option}
use Rattle.vectors.specs.Over.{zeros}
use Rattle.relation.specs.Meaning.{RelationMeaning}
use Rattle.masks.specs.Mask.{Mask, sized}
use Rattle.masks.specs.Draw.{Drawn, draw_mask}

-- 71 where the bytes run out
abbrev pub runs_out : Option (Drawn Mask) → Option ℕ
runs_out None = Some 71
runs_out (Some drawn) = None

-- `lent` are the parts as they were
abbrev pub draw_fault : {E : Type 0} → RelationMeaning E → ℕ → Mask → List ℕ → Option ℕ
draw_fault relation width lent random = cond (sized relation width lent) (runs_out (draw_mask relation width random)) (Some 32)

-- the parts hold the mask that was drawn, and so many bytes were read
abbrev pub Filled : Option (Drawn Mask) → List ℕ → Mask → ℕ → Type 0
Filled None random parts count = ⊥
Filled (Some drawn) random parts count = (parts ≡ drawn.value) × (count + length drawn.rest ≡ length random)

-- all zeros, as long as before
abbrev pub zeroed : Mask → Mask
zeroed lent = record {
  permutations = zeros (length lent.permutations);
  layers = zeros (length lent.layers);
  free = zeros (length lent.free);
  coins = zeros (length lent.coins);
}
