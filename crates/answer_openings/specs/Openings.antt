-- The commitments that an answer must open, and the first one that it does not open.
use Rattle.std.specs.Prelude.{◌≡◌, ℕ, ◌*◌, Bool, cond, List, length, Some, None, Option}
use Rattle.refusals.specs.declared.cause.Cause.{Cause}
use Rattle.refusals.specs.declared.cause.Cause.TheVariants.{NotOpened}
use Rattle.vectors.specs.Layers.{Permutations}
use Rattle.vectors.specs.Lists.{same}
use Rattle.vectors.specs.Words.{bytes, words}
use Rattle.relation.specs.Meaning.{RelationMeaning, Layers, Free}
use Rattle.commitment.specs.Meaning.{SchemeMeaning}
use Rattle.messages.specs.Checks.{or_else}
use Rattle.openings.specs.declared.images.ImageKind.{ImageKind}
use Rattle.openings.specs.Shown.{shown_image}
use Rattle.moves.specs.Moves.{act, with_image}
use Rattle.answer_openings.specs.declared.opening.Shown.{Shown}

-- 88, where the commitment is not opened
abbrev pub checked_cause : Shown → Bool → Option Cause
checked_cause shown opened = cond opened None (Some (NotOpened shown.number))

-- the coins and the message open the commitment that is their value
abbrev pub shown_cause : SchemeMeaning → Shown → List ℕ → Option Cause
shown_cause scheme shown message = checked_cause shown (same shown.commitment.now (scheme.value shown.coins.now message))

-- the first of two commitments that is not opened
abbrev pub pair_cause : SchemeMeaning → Shown → List ℕ → Shown → List ℕ → Option Cause
pair_cause scheme lower message upper message' = or_else (shown_cause scheme lower message) (shown_cause scheme upper message')

-- at challenges 2 and 3, from permutations, layers and a free part
abbrev pub long_cause : {E : Type 0} → RelationMeaning E → SchemeMeaning → Shown → Shown → ImageKind → List ℕ → List ℕ → List ℕ → Option Cause
long_cause relation scheme lower upper kind p z u =
    pair_cause scheme lower (with_image relation p (shown_image relation kind z u)) upper (bytes (act relation p z))

-- the bytes of an answer to challenge 2 or 3 that passed the checks without commitments
pub record LongReady {E : Type 0} (relation : RelationMeaning E) (width : ℕ) (permutations layers free lower_coins upper_coins : List ℕ) : Type 0 where
  pub permutations_size : length permutations ≡ 2 * (relation.layer_count * relation.layer_len)
  pub permuting : Permutations relation.layer_len relation.layer_count (words permutations)
  pub permutations_bytes : bytes (words permutations) ≡ permutations
  pub layers_size : length layers ≡ 2 * (relation.layer_count * relation.layer_len)
  pub layers_residues : Layers relation (words layers)
  pub free_size : length free ≡ 2 * relation.free_len
  pub free_residues : Free relation (words free)
  pub lower_width : length lower_coins ≡ width
  pub upper_width : length upper_coins ≡ width
