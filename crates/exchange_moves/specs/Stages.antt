-- What the steps of judging ask and promise.
use Rattle.std.specs.Prelude.{◌≡◌, ℕ, ◌*◌, List, length, Option}
use Rattle.refusals.specs.declared.cause.Cause.{Cause}
use Rattle.refusals.specs.declared.cause.Cause.TheVariants.{Reader, ResidueNotBelowModulus, NoPermutation, ShapeMissing, NotOpened}
use Rattle.vectors.specs.Words.{bytes, words}
use Rattle.vectors.specs.Residues.{plus}
use Rattle.vectors.specs.Layers.{first_failing}
use Rattle.relation.specs.Meaning.{RelationMeaning, Layers}
use Rattle.commitment.specs.Meaning.{SchemeMeaning}
use Rattle.messages.specs.declared.challenge.Challenge.{Challenge}
use Rattle.messages.specs.declared.fields.Answer.{Answer}
use Rattle.messages.specs.declared.fields.Answer.TheVariants.{First, Second, Third}
use Rattle.messages.specs.Contents.{Said, said_by}
use Rattle.messages.specs.Checks.{or_else}
use Rattle.moves.specs.Moves.{Triple, openings}
use Rattle.moves.specs.Causes.{misshapen, shape_cause, opening_cause, cause}
use Rattle.answer_openings.specs.declared.opening.Shown.{Shown}
use Rattle.answer_openings.specs.Openings.{LongReady, pair_cause}

-- the bytes of an answer to challenge 1 that passed the checks without commitments
pub record FirstReady {E : Type 0} (relation : RelationMeaning E) (width : ℕ) (key mask coins_2 coins_3 : List ℕ) : Type 0 where
  pub key_size : length key ≡ 2 * (relation.layer_count * relation.layer_len)
  pub key_residues : Layers relation (words key)
  pub mask_size : length mask ≡ 2 * (relation.layer_count * relation.layer_len)
  pub mask_residues : Layers relation (words mask)
  pub mask_bytes : bytes (words mask) ≡ mask
  pub width_2 : length coins_2 ≡ width
  pub width_3 : length coins_3 ≡ width

abbrev pub AnswerReady : {E : Type 0} → RelationMeaning E → ℕ → Answer → Type 0
AnswerReady relation width (First a b c d) = FirstReady relation width a.content.now b.content.now c.content.now d.content.now
AnswerReady relation width (Second a b c d e) = LongReady relation width a.content.now b.content.now c.content.now d.content.now e.content.now
AnswerReady relation width (Third a b c d e) = LongReady relation width a.content.now b.content.now c.content.now d.content.now e.content.now

module _ {E : Type 0} (relation : RelationMeaning E) (scheme : SchemeMeaning) where
  -- 87 and 88, of an answer that passed the checks without commitments
  abbrev pub later_cause : Triple → Said → Option Cause
  later_cause c said =
      or_else (shape_cause relation scheme (misshapen relation scheme said))
      (or_else (opening_cause relation scheme c (openings relation said).0) (opening_cause relation scheme c (openings relation said).1))

  -- the message was read as this answer, and no check without commitments fails
  pub record Checked (challenge : Challenge) (message : List ℕ) (answer : Answer) : Type 0 where
    pub ready : AnswerReady relation scheme.width answer
    pub cause : (c : Triple) → cause relation scheme c challenge message ≡ later_cause c (said_by answer)

-- 87 and 88 at challenge 1, from P(E) and P(R)
abbrev pub first_cause : {E : Type 0} → RelationMeaning E → SchemeMeaning → Shown → Shown → List ℕ → List ℕ → Option Cause
first_cause relation scheme second third e r =
    or_else (shape_cause relation scheme (first_failing relation.shape relation.layer_len 0 relation.layer_count e))
    (pair_cause scheme second (bytes r) third (bytes (plus relation.q e r)))

-- a cause that is found without a commitment
abbrev pub Early : Cause → Type 0
Early (Reader fault) = Unit {0}
Early (ResidueNotBelowModulus offset) = Unit {0}
Early (NoPermutation layer) = Unit {0}
Early (ShapeMissing layer) = ⊥
Early (NotOpened commitment) = ⊥
