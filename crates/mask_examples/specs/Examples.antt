-- Worked examples of drawing numbers and permutations.
use Rattle.std.specs.Prelude.{◌≡◌, [], ◌∷◌, Some, None}
use Rattle.masks.specs.Draw.{draw_below, draw_permutation}

pub record Examples : Type 0 where
  -- below 5, the word 65534 gives 4
  pub word_accepted : draw_below 5 (255 ∷ 254 ∷ []) ≡ Some (record { value = 4; rest = [] })
  -- and 65535 is skipped
  pub word_skipped : draw_below 5 (255 ∷ 255 ∷ 255 ∷ 254 ∷ []) ≡ Some (record { value = 4; rest = [] })
  -- the words 6, 5, 1
  pub four_places : draw_permutation 4 (0 ∷ 6 ∷ 0 ∷ 5 ∷ 0 ∷ 1 ∷ []) ≡ Some (record { value = 0 ∷ 1 ∷ 3 ∷ 2 ∷ []; rest = [] })
  -- one byte is left where a word is wanted
  pub one_byte_left : draw_permutation 4 (0 ∷ 6 ∷ 0 ∷ 5 ∷ 0 ∷ []) ≡ None
