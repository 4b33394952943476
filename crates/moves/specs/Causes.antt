-- The computed cause of a no, and what it decides.
use Rattle.std.specs.Prelude.{◌≡◌, ℕ, ◌+◌, ◌*◌, ◌<◌, cond, ◌↔◌, List, [], Some, None, Option, slice_index_or}
use Rattle.std.specs.List.{AllByRecursion}
use Rattle.refusals.specs.declared.fault.Fault.{Fault}
use Rattle.refusals.specs.declared.cause.Cause.{Cause}
use Rattle.refusals.specs.declared.cause.Cause.TheVariants.{Reader, ShapeMissing, NotOpened}
use Rattle.vectors.specs.Lists.{same}
use Rattle.vectors.specs.Words.{words}
use Rattle.vectors.specs.Layers.{first_failing}
use Rattle.relation.specs.Meaning.{RelationMeaning}
use Rattle.commitment.specs.Meaning.{SchemeMeaning}
use Rattle.messages.specs.declared.challenge.Challenge.{Challenge}
use Rattle.messages.specs.declared.challenge.Challenge.TheVariants.{One, Two, Three}
use Rattle.messages.specs.declared.fields.Sizes.{Sizes}
use Rattle.messages.specs.Reading.{reading_fault, contents}
use Rattle.messages.specs.Contents.{Said, to_first, to_second, to_third, said_to, answer_slots, answer_written}
use Rattle.messages.specs.Checks.{or_else, first_above, first_unpermuted, cause_of}
use Rattle.moves.specs.Moves.{Triple, numbered, Opening, openings, Accepts}

module _ {E : Type 0} (relation : RelationMeaning E) (scheme : SchemeMeaning) where
  -- the lengths of contents in bytes
  abbrev pub sizes : Sizes
  sizes = record { layers = 2 * (relation.layer_count * relation.layer_len); free = 2 * relation.free_len; width = scheme.width }

  -- what the contents of the fields say
  abbrev pub said_in : Challenge → List (List ℕ) → Said
  said_in One parts = to_first (words (slice_index_or parts 0 [])) (words (slice_index_or parts 1 [])) (slice_index_or parts 2 []) (slice_index_or parts 3 [])
  said_in Two parts = to_second (words (slice_index_or parts 0 [])) (words (slice_index_or parts 1 [])) (words (slice_index_or parts 2 [])) (slice_index_or parts 3 []) (slice_index_or parts 4 [])
  said_in Three parts = to_third (words (slice_index_or parts 0 [])) (words (slice_index_or parts 1 [])) (words (slice_index_or parts 2 [])) (slice_index_or parts 3 []) (slice_index_or parts 4 [])

  -- 85: the offset in the message of the first residue that is not below q
  abbrev pub residue_above : Said → Option ℕ
  residue_above (to_first e r a b) = or_else (first_above relation.q 3 e) (first_above relation.q (6 + sizes.layers) r)
  residue_above (to_second p z u a b) = or_else (first_above relation.q (6 + sizes.layers) z) (first_above relation.q (9 + 2 * sizes.layers) u)
  residue_above (to_third p r v a b) = or_else (first_above relation.q (6 + sizes.layers) r) (first_above relation.q (9 + 2 * sizes.layers) v)

  -- 86: the first layer whose list of positions is no permutation
  abbrev pub unpermuted : Said → Option ℕ
  unpermuted (to_first e r a b) = None
  unpermuted (to_second p z u a b) = first_unpermuted relation.layer_len relation.layer_count p
  unpermuted (to_third p r v a b) = first_unpermuted relation.layer_len relation.layer_count p

  -- 87: the first layer without its shape
  abbrev pub misshapen : Said → Option ℕ
  misshapen (to_first e r a b) = first_failing relation.shape relation.layer_len 0 relation.layer_count e
  misshapen (to_second p z u a b) = None
  misshapen (to_third p r v a b) = None

  abbrev pub shape_cause : Option ℕ → Option Cause
  shape_cause None = None
  shape_cause (Some layer) = Some (ShapeMissing layer)

  -- 88: the first commitment that is not opened
  abbrev pub opening_cause : Triple → Opening → Option Cause
  opening_cause c o = cond (same (numbered c o.number) (scheme.value o.coins o.message)) None (Some (NotOpened o.number))

  -- the first check that fails, of an answer that was read
  abbrev pub said_cause : Triple → Said → Option Cause
  said_cause c said =
      or_else (cause_of (residue_above said) (unpermuted said))
      (or_else (shape_cause (misshapen said))
      (or_else (opening_cause c (openings relation said).0) (opening_cause c (openings relation said).1)))

  abbrev pub after_reading : Option Fault → Option Cause → Option Cause
  after_reading None next = next
  after_reading (Some fault) next = Some (Reader fault)

  -- the cause of a no to a message, if there is one
  abbrev pub cause : Triple → Challenge → List ℕ → Option Cause
  cause c challenge message =
      after_reading (reading_fault (answer_slots challenge sizes) 0 message) (said_cause c (said_in challenge (contents (answer_slots challenge sizes) 0 message)))

  -- there is no cause exactly when the message is the writing of an answer to this challenge that is accepted
  abbrev pub Decided : Type 0
  Decided = (c : Triple) (challenge : Challenge) (message : List ℕ) → AllByRecursion (λ b. b < 256) message
      → (cause c challenge message ≡ None) ↔ ((said : Said) × (said_to said ≡ challenge) × (answer_written said ≡ message) × Accepts relation scheme c said)
