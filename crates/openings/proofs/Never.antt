-- Calls that are made so that they are not refused.
use Rattle.std.proofs.Common.{◌≡◌, ℕ, ◌*◌, ◌≤◌, true, eqb, List, length, None, Option, Ok, Err, Result, refl, arith}
use Rattle.std.specs.Result.{IsOk}
use Rattle.std.proofs.lemmas.Bool.{eq-eqb, and_from, cond-true}
use Rattle.std.proofs.lemmas.Bool.Decides.{nat_tests}
use Rattle.refusals.specs.declared.refusal.Refusal.{Refusal}
use Rattle.refusals.specs.Answers.{Answered}
use Rattle.vectors.specs.Residues.{below}
use Rattle.vectors.proofs.Residues.{below_from_all}
use Rattle.relation.specs.Meaning.{RelationMeaning, Layers, Free}
use Rattle.relation.specs.Faults.{whole, image_fault}
use Rattle.commitment.specs.Meaning.{SchemeMeaning, SchemeState, feed_fault}
use Rattle.commitment.specs.Messages.{commit_fault}

-- a call without a fault answers
pub answers : {X : Type 0} (fault : Option ℕ) (r : Result X Refusal) (P : X → Type 0) (Q : Type 0) → Answered fault r P Q → fault ≡ None → IsOk r
answers fault (Ok value) P Q h none = refl
answers fault (Err refusal) P Q h none = cc

module _ (scheme : SchemeMeaning) (coins out : List ℕ) (wide : length coins ≡ scheme.width) (wide' : length out ≡ scheme.width) where
  pub commit_none : (text : List ℕ) → length text ≤ scheme.limit → commit_fault scheme coins text out ≡ None
  commit_none text h = grind (arith, nat_tests)

pub feed_none : (state : SchemeState) (size : ℕ) → size ≤ state.room → feed_fault state size ≡ None
feed_none state size h = grind (arith, nat_tests)

module _ {E : Type 0} (relation : RelationMeaning E) where
  pub image_none : (zs t : List ℕ) (size : ℕ) → Layers relation zs → Free relation t → size ≡ relation.image_len → image_fault relation zs t size ≡ None
  image_none zs t size hz ht k = cond-true _ _ _ (and_from (eqb size relation.image_len) _ (eq-eqb _ _ k) parts)
    where
      parts : whole relation zs t ≡ true
      parts =
          and_from (eqb (length zs) (relation.layer_count * relation.layer_len)) _ (eq-eqb _ _ hz.0)
          (and_from (eqb (length t) relation.free_len) _ (eq-eqb _ _ ht.0)
          (and_from (below relation.q zs) (below relation.q t) (below_from_all relation.q zs hz.1) (below_from_all relation.q t ht.1)))
