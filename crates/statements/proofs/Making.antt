-- What a statement has in which no fault was found.
use Rattle.std.proofs.Common.{◌≡◌, ℕ, ◌<◌, ◌≤◌, Bool, true, List, length, None, Ok, Err, Option, Result, IsOk, refl, arith}
use Rattle.refusals.specs.Answers.{Answered}
use Rattle.refusals.specs.declared.refusal.Refusal.{Refusal}
use Rattle.vectors.specs.Residues.{below}
use Rattle.vectors.proofs.Residues.{below_from_all, get_or-below}
use Rattle.relation_laws.specs.Statements.{statement_fault}
use Rattle.relation_laws.proofs.Made.{made}
use Rattle.statements.specs.declared.given.Given.{Given}
use Rattle.statements.specs.Given.{statement}
use Rattle.statements.specs.Made.{Dimensions, Lengths}

-- a call without a fault answers
pub answers : {X : Type 0} (fault : Option ℕ) (r : Result X Refusal) (P : X → Type 0) (Q : Type 0) → Answered fault r P Q → fault ≡ None → IsOk r
answers fault (Ok value) P Q h none = refl
answers fault (Err refusal) P Q h none = cc

-- a list that is not empty has residues only of a modulus above 0
above_zero : (q : ℕ) (xs : List ℕ) → 0 < length xs → below q xs ≡ true → 0 < q
above_zero q xs l h = omega (arith, get_or-below q xs 0 l h)

pub record MadeFacts (given : Given) : Type 0 where
  pub dimensions : Dimensions given
  pub modulus : 0 < given.modulus
  pub lengths : Lengths given
  pub residues : below given.modulus given.target.now ≡ true

pub made_facts : (given : Given) (modulus_in bound_in : Bool) → statement_fault modulus_in bound_in (statement given) ≡ None → MadeFacts given
made_facts given modulus_in bound_in none =
    let m = made modulus_in bound_in (statement given) none in
    let residues = below_from_all given.modulus given.target.now m.target_residues.1 in
    let rows : length given.target.now ≡ given.rows = m.target_residues.0 in
    let some : 1 ≤ given.rows = m.rows_range.0 in
    record {
      dimensions = (m.rows_range.1, m.columns_range.1);
      modulus = above_zero given.modulus given.target.now (omega arith) residues;
      lengths = (m.matrix_residues.0, m.target_residues.0);
      residues = residues;
    }
