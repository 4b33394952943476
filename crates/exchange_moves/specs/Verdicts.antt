-- What judging an answer promises.
use Rattle.std.specs.Prelude.{◌≡◌, ℕ, ◌<◌, ◌↔◌, List, Some, None, Option}
use Rattle.std.specs.List.{AllByRecursion}
use Rattle.refusals.specs.declared.cause.Cause.{Cause}
use Rattle.refusals.specs.declared.cause.Cause.TheVariants.{Reader, ResidueNotBelowModulus, NoPermutation, ShapeMissing, NotOpened}
use Rattle.relation.specs.Meaning.{RelationMeaning}
use Rattle.commitment.specs.Meaning.{SchemeMeaning}
use Rattle.messages.specs.declared.challenge.Challenge.{Challenge}
use Rattle.messages.specs.declared.fields.Triple.{Triple as LentTriple}
use Rattle.messages.specs.Checks.{or_else}
use Rattle.messages.specs.Contents.{Said, said_to, answer_written}
use Rattle.moves.specs.Moves.{Triple, Accepts}
use Rattle.moves.specs.Sizes.{limit_fault, work_fault}

-- `work` is a length
abbrev pub judge_fault : {E : Type 0} → RelationMeaning E → SchemeMeaning → ℕ → Option ℕ
judge_fault relation scheme work = or_else (limit_fault relation scheme) (work_fault relation work)

abbrev pub triple : List ℕ → List ℕ → List ℕ → Triple
triple one two three = record { one = one; two = two; three = three }

-- commitments that the code is lent
abbrev pub lent : LentTriple → Triple
lent c = triple c.one.now c.two.now c.three.now

-- a verdict that needs a commitment computed leaves the scheme as newly made; the others leave it as it was
abbrev pub Leaves : Option Cause → Type 0 → Type 0 → Type 0
Leaves None fresh same = fresh
Leaves (Some (Reader fault)) fresh same = same
Leaves (Some (ResidueNotBelowModulus offset)) fresh same = same
Leaves (Some (NoPermutation layer)) fresh same = same
Leaves (Some (ShapeMissing layer)) fresh same = same
Leaves (Some (NotOpened commitment)) fresh same = fresh

-- a message that is the writing of an answer to this challenge that is accepted
abbrev pub Proves : {E : Type 0} → RelationMeaning E → SchemeMeaning → Triple → Challenge → List ℕ → Type 0
Proves relation scheme c challenge message = (said : Said) × (said_to said ≡ challenge) × (answer_written said ≡ message) × Accepts relation scheme c said

-- yes exactly to these; a message is a list of bytes
abbrev pub YesTo : {E : Type 0} → RelationMeaning E → SchemeMeaning → Triple → Challenge → List ℕ → Option Cause → Type 0
YesTo relation scheme c challenge message verdict = AllByRecursion (λ b. b < 256) message → (verdict ≡ None) ↔ Proves relation scheme c challenge message
