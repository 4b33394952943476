-- What a verdict says once it is the computed cause.
use Rattle.std.proofs.Common.{◌≡◌, ℕ, List, Option, sym, ◌∙◌}
use Rattle.refusals.specs.declared.cause.Cause.{Cause}
use Rattle.relation.specs.Meaning.{RelationMeaning}
use Rattle.relation.specs.Laws.{RelationLaws}
use Rattle.commitment.specs.Meaning.{SchemeMeaning, SchemeLaws}
use Rattle.messages.specs.declared.challenge.Challenge.{Challenge}
use Rattle.moves.specs.Moves.{Triple}
use Rattle.moves.specs.Causes.{cause}
use Rattle.moves.proofs.Deciding.{decided}
use Rattle.exchange_moves.specs.Verdicts.{YesTo}

module _ {E : Type 0} (relation : RelationMeaning E) (scheme : SchemeMeaning) where
  pub yes_to : (laws : RelationLaws relation) (scheme_laws : SchemeLaws scheme) (c : Triple) (challenge : Challenge) (message : List ℕ) (verdict : Option Cause)
      → verdict ≡ cause relation scheme c challenge message → YesTo relation scheme c challenge message verdict
  yes_to laws scheme_laws c challenge message verdict e low =
      let both = decided relation scheme laws scheme_laws c challenge message low in
      ((λ none. both.0 (sym e ∙ none)), (λ proves. e ∙ both.1 proves))
