-- Lists of exchange calls, and what they told.
use Rattle.std.specs.Prelude.{ℕ, ◌<◌, cond, List, [], ◌∷◌, ◌++◌, Some, None, Ok, Err, Option, Result, ◌==◌}
use Rattle.std.specs.List.{AllByRecursion}
use Rattle.refusals.specs.declared.cause.Cause.{Cause}
use Rattle.refusals.specs.declared.refusal.Refusal.{Refusal}
use Rattle.relation.specs.Meaning.{RelationMeaning}
use Rattle.commitment.specs.Meaning.{SchemeMeaning}
use Rattle.messages.specs.declared.challenge.Challenge.{Challenge}
use Rattle.moves.specs.Moves.{Triple}
use Rattle.exchange_steps.specs.State.{ExchangeState, Entry}
use Rattle.exchange_steps.specs.Steps.{read_triple, open_step, dice_step, clear_step, judge_step}

-- a call with all that its caller chooses; the log's memory is part of the state
pub data Call : Type 0 where
  open_line : (line : ℕ) (message : List ℕ) → Call
  dice : (line byte : ℕ) → Call
  -- with the length of the work area
  judge : (line : ℕ) (message : List ℕ) (work : ℕ) → Call
  clear : (line : ℕ) → Call

-- what a call told
pub data Event : Type 0 where
  refused : Refusal → Event
  opens : (line : ℕ) (commitments : Triple) → Event
  throws : (line : ℕ) (challenge : Challenge) → Event
  says_yes : (line : ℕ) (message : List ℕ) → Event
  says_no : (line : ℕ) (why : Cause) → Event
  clears : (line : ℕ) → Event

abbrev pub done : {T : Type 0} → (T → Event) → Result T Refusal → Event
done event (Ok value) = event value
done event (Err refusal) = refused refusal

abbrev pub verdict : ℕ → List ℕ → Option Cause → Event
verdict line message None = says_yes line message
verdict line message (Some why) = says_no line why

module _ {E : Type 0} (relation : RelationMeaning E) (scheme : SchemeMeaning) where
  abbrev pub after : ExchangeState → Call → ExchangeState
  after s (open_line line message) = (open_step scheme.width s line message).1
  after s (dice line byte) = (dice_step s line byte).1
  after s (judge line message work) = (judge_step relation scheme s line message work).1
  after s (clear line) = (clear_step s line).1

  abbrev pub event : ExchangeState → Call → Event
  event s (open_line line message) = done (λ _. opens line (read_triple scheme.width message)) (open_step scheme.width s line message).0
  event s (dice line byte) = done (throws line) (dice_step s line byte).0
  event s (judge line message work) = done (verdict line message) (judge_step relation scheme s line message work).0
  event s (clear line) = done (λ _. clears line) (clear_step s line).0

  abbrev pub run : ExchangeState → List Call → ExchangeState
  run s [] = s
  run s (call ∷ calls) = run (after s call) calls

  abbrev pub events : ExchangeState → List Call → List Event
  events s [] = []
  events s (call ∷ calls) = event s call ∷ events (after s call) calls

-- what last took place on a line: the last open and dice that were not refused, unless the line was freed since
pub data History : Type 0 where
  idle : History
  opened : Triple → History
  challenged : Triple → Challenge → History

abbrev pub thrown_on : Challenge → History → History
thrown_on challenge idle = idle
thrown_on challenge (opened c) = challenged c challenge
thrown_on challenge (challenged c earlier) = challenged c challenge

abbrev pub next : ℕ → History → Event → History
next line before (refused refusal) = before
next line before (opens l c) = cond (l == line) (opened c) before
next line before (throws l challenge) = cond (l == line) (thrown_on challenge before) before
next line before (says_yes l message) = cond (l == line) idle before
next line before (says_no l why) = cond (l == line) idle before
next line before (clears l) = cond (l == line) idle before

abbrev pub history : ℕ → History → List Event → History
history line before [] = before
history line before (event ∷ events) = history line (next line before event) events

-- the entry of a yes: the commitments and the challenge of the line's last open and dice, and the answer
abbrev pub entry_of : History → List ℕ → List Entry
entry_of idle message = []
entry_of (opened c) message = []
entry_of (challenged c challenge) message = record { commitments = c; challenge = challenge; message = message } ∷ []

abbrev pub entry_by : (ℕ → History) → Event → List Entry
entry_by before (refused refusal) = []
entry_by before (opens l c) = []
entry_by before (throws l challenge) = []
entry_by before (says_yes l message) = entry_of (before l) message
entry_by before (says_no l why) = []
entry_by before (clears l) = []

-- the yeses that were given, in their order; `before` are the histories of the lines so far
abbrev pub given : (ℕ → History) → List Event → List Entry
given before [] = []
given before (event ∷ events) = entry_by before event ++ given (λ line. next line (before line) event) events

-- the messages are bytes
abbrev pub Bytes : Call → Type 0
Bytes (open_line line message) = AllByRecursion (λ b. b < 256) message
Bytes (dice line byte) = byte < 256
Bytes (judge line message work) = AllByRecursion (λ b. b < 256) message
Bytes (clear line) = Unit {0}
