-- A console and a call's result in the words of the steps: slips by line and number, refusals by number.
use Rattle.std.specs.Prelude.{◌≡◌, ℕ, List, Ok, Err, Result}
use Rattle.refusals.specs.declared.refusal.Refusal.{Refusal}
use Rattle.refusals.specs.Numbers.{number}
use Rattle.console_steps.specs.State.{ConsoleState, console_state, new_console, Slip, loaded, committed}
use Rattle.console.specs.declared.console.Console.{Console}
use Rattle.console.specs.declared.slips.LoadedSlip.{LoadedSlip}
use Rattle.console.specs.declared.slips.CommittedSlip.{CommittedSlip}
use Rattle.console.specs.declared.slips.AnySlip.{AnySlip}
use Rattle.console.specs.declared.slips.AnySlip.TheVariants as any

-- a console with the memory that is lent to a call
abbrev pub state_of : {R S : Type 0} → Console R S → (numbers coins : List ℕ) → ConsoleState
state_of console numbers coins = console_state console.lines console.loads numbers coins

-- a console just made has this relation and this scheme, whatever memory holds
pub record IsNew {R S : Type 0} (console : Console R S) (its_relation : R) (its_scheme : S) : Type 0 where
  pub relation : console.relation ≡ its_relation
  pub scheme : console.scheme ≡ its_scheme
  pub state : (numbers coins : List ℕ) → state_of console numbers coins ≡ new_console numbers coins

-- a call leaves the relation and the scheme as they were
pub record Keeps {R S : Type 0} (old new : Console R S) : Type 0 where
  pub relation : new.relation ≡ old.relation
  pub scheme : new.scheme ≡ old.scheme

abbrev pub loaded_slip : LoadedSlip → Slip
loaded_slip slip = loaded slip.line slip.count

abbrev pub committed_slip : CommittedSlip → Slip
committed_slip slip = committed slip.line slip.count

abbrev pub any_slip : AnySlip → Slip
any_slip (any.Loaded slip) = loaded_slip slip
any_slip (any.Committed slip) = committed_slip slip

abbrev pub told_load : Result LoadedSlip Refusal → Result Slip ℕ
told_load (Ok slip) = Ok (loaded_slip slip)
told_load (Err refusal) = Err (number refusal)

abbrev pub told_commit : Result (CommittedSlip × ℕ) (LoadedSlip × Refusal) → Result (Slip × ℕ) (Slip × ℕ)
told_commit (Ok done) = Ok (committed_slip done.0, done.1)
told_commit (Err back) = Err (loaded_slip back.0, number back.1)

abbrev pub told_answer : Result ℕ (CommittedSlip × Refusal) → Result ℕ (Slip × ℕ)
told_answer (Ok size) = Ok size
told_answer (Err back) = Err (committed_slip back.0, number back.1)

abbrev pub told_burn : Result (Unit {0}) (AnySlip × Refusal) → Result (Unit {0}) (Slip × ℕ)
told_burn (Ok done) = Ok done
told_burn (Err back) = Err (any_slip back.0, number back.1)

-- what a commit leaves of the scheme: as newly made where it was done, as it was where it was refused
abbrev pub Leaves : {T B : Type 0} → Result T B → Type 0 → Type 0 → Type 0
Leaves (Ok done) fresh same = fresh
Leaves (Err back) fresh same = same
