-- An exchange and a call's result in the words of the steps.
use Rattle.std.specs.Prelude.{◌≡◌, ℕ, ◌≤◌, false, List, Some, None, Ok, Err, Option, Result}
use Rattle.std.specs.Result.{result_err}
use Rattle.refusals.specs.declared.cause.Cause.{Cause}
use Rattle.refusals.specs.declared.refusal.Refusal.{Refusal}
use Rattle.messages.specs.declared.challenge.Challenge.{Challenge}
use Rattle.relation.specs.Meaning.{RelationMeaning}
use Rattle.commitment.specs.Meaning.{SchemeMeaning}
use Rattle.moves.specs.Causes.{cause}
use Rattle.moves.specs.Sizes.{limit_fault, work_fault}
use Rattle.exchange_moves.specs.Verdicts.{Leaves, YesTo}
use Rattle.exchange_steps.specs.declared.log.Record.{Record}
use Rattle.exchange_steps.specs.State.{ExchangeState, exchange_state, new_exchange, line_at, commitments_in}
use Rattle.exchange_steps.specs.Steps.{log_full}
use Rattle.exchange_steps.specs.declared.lines.LineState.{LineState}
use Rattle.exchange_steps.specs.declared.lines.LineState.TheVariants.{Free, Opened, Challenged}
use Rattle.exchange.specs.declared.exchange.Exchange.{Exchange}

-- an exchange with the log's memory
abbrev pub state_of : {R S : Type 0} → Exchange R S → (records : List Record) (bytes : List ℕ) → ExchangeState
state_of exchange records bytes = exchange_state exchange.lines exchange.table exchange.entries exchange.used records bytes

-- an exchange just made has this relation and this scheme, whatever the log's memory holds
pub record IsNew {R S : Type 0} (exchange : Exchange R S) (its_relation : R) (its_scheme : S) : Type 0 where
  pub relation : exchange.relation ≡ its_relation
  pub scheme : exchange.scheme ≡ its_scheme
  pub state : (records : List Record) (bytes : List ℕ) → state_of exchange records bytes ≡ new_exchange records bytes

-- a call leaves the relation and the scheme as they were
pub record Keeps {R S : Type 0} (old new : Exchange R S) : Type 0 where
  pub relation : new.relation ≡ old.relation
  pub scheme : new.scheme ≡ old.scheme

-- a verdict in the steps' words: the cause of a no, none for a yes
abbrev pub told_judge : Result (Result (Unit {0}) Cause) Refusal → Result (Option Cause) Refusal
told_judge (Ok verdict) = Ok (result_err verdict)
told_judge (Err refusal) = Err refusal

-- of a call that was not refused
abbrev pub IfJudged : Result (Result (Unit {0}) Cause) Refusal → (Option Cause → Type 0) → Type 0 → Type 0
IfJudged (Ok verdict) P Q = P (result_err verdict)
IfJudged (Err refusal) P Q = Q

-- of the challenge of a challenged line
abbrev pub IfChallenged : LineState → (Challenge → Type 0) → Type 0
IfChallenged Free P = Unit {0}
IfChallenged Opened P = Unit {0}
IfChallenged (Challenged challenge) P = P challenge

-- a line that is challenged, with the log's room, a scheme and a work area that suffice; `work` is the length of the work area
pub record Ready {E : Type 0} (relation : RelationMeaning E) (scheme : SchemeMeaning) (s : ExchangeState) (line : ℕ) (message : List ℕ) (work : ℕ) (challenge : Challenge) : Type 0 where
  pub low : line ≤ 3
  pub challenged : line_at s line ≡ Challenged challenge
  pub room : log_full s message ≡ false
  pub limit : limit_fault relation scheme ≡ None
  pub area : work_fault relation work ≡ None

-- what judging against the commitments in a row says, and how it leaves the scheme
pub record RowJudged {E : Type 0} (relation : RelationMeaning E) (scheme : SchemeMeaning) (row : List ℕ) (challenge : Challenge) (message : List ℕ) (fresh same : Type 0) (why : Option Cause) : Type 0 where
  pub computed : why ≡ cause relation scheme (commitments_in scheme.width row) challenge message
  pub decides : YesTo relation scheme (commitments_in scheme.width row) challenge message why
  pub leaves : Leaves why fresh same
