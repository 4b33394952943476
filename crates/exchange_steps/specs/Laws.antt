-- What holds over every list of calls of an exchange that was just made.
use Rattle.std.specs.Prelude.{◌≡◌, ℕ, ◌+◌, ◌%◌, ◌<◌, ◌≢◌, List, ◌++◌, map, None}
use Rattle.std.specs.List.{range_with_len, AllByRecursion}
use Rattle.refusals.specs.declared.refusal.Refusal.TheVariants.{SchemeLimit}
use Rattle.relation.specs.Meaning.{RelationMeaning}
use Rattle.commitment.specs.Meaning.{SchemeMeaning}
use Rattle.messages.specs.declared.challenge.Challenge.{Challenge}
use Rattle.messages.specs.Contents.{challenge_number}
use Rattle.moves.specs.Sizes.{limit_fault}
use Rattle.exchange_moves.specs.Verdicts.{Proves}
use Rattle.exchange_steps.specs.declared.lines.LineState.TheVariants.{Free, Opened, Challenged}
use Rattle.exchange_steps.specs.declared.log.Record.{Record}
use Rattle.exchange_steps.specs.State.{ExchangeState, Entry, line_at, row_at, commitments_in, entry_in, new_exchange}
use Rattle.exchange_steps.specs.Runs.{Call, dice, Bytes, refused, throws, History, idle, opened, challenged, event, run, events, history, given}

module _ {E : Type 0} (relation : RelationMeaning E) (scheme : SchemeMeaning) where
  -- what a line is by its history
  abbrev pub Holds : ExchangeState → ℕ → History → Type 0
  Holds s line idle = line_at s line ≡ Free
  Holds s line (opened c) = (line_at s line ≡ Opened) × (commitments_in scheme.width (row_at s line) ≡ c)
  Holds s line (challenged c challenge) = (line_at s line ≡ Challenged challenge) × (commitments_in scheme.width (row_at s line) ≡ c)

  -- the log that memory holds
  abbrev pub log_in : ExchangeState → List Entry
  log_in s = map (entry_in scheme.width s) (range_with_len 0 s.entries)

  pub record ExchangeLaws : Type 0 where
    -- a challenged line holds the commitments and the challenge of its last open and dice that were not refused
    pub lines_hold : (records : List Record) (bytes : List ℕ) (calls : List Call) (line : ℕ) → line < 4
        → Holds (run relation scheme (new_exchange records bytes) calls) line (history line idle (events relation scheme (new_exchange records bytes) calls))
    -- the log in memory is the list of the yeses that were given, each with the commitments and the challenge of its line
    pub log_given : (records : List Record) (bytes : List ℕ) (calls : List Call)
        → log_in (run relation scheme (new_exchange records bytes) calls) ≡ given (λ _. idle) (events relation scheme (new_exchange records bytes) calls)
    -- the answer of each entry is accepted for its commitments and its challenge
    pub log_accepted : (records : List Record) (bytes : List ℕ) (calls : List Call) → AllByRecursion Bytes calls
        → AllByRecursion (λ e. Proves relation scheme e.commitments e.challenge e.message) (log_in (run relation scheme (new_exchange records bytes) calls))
    -- entries never change: later calls only add to the log
    pub log_kept : (records : List Record) (bytes : List ℕ) (calls more : List Call)
        → (added : List Entry) × (log_in (run relation scheme (new_exchange records bytes) (calls ++ more)) ≡ log_in (run relation scheme (new_exchange records bytes) calls) ++ added)
    -- the challenge that a dice tells has the number byte mod 3, plus 1
    pub dice_number : (s : ExchangeState) (line byte : ℕ) (challenge : Challenge) → event relation scheme s (dice line byte) ≡ throws line challenge → challenge_number challenge ≡ byte % 3 + 1
    -- where the scheme's limit suffices, as it does for every exchange that was made, no call is refused by 56
    pub limit_never : (records : List Record) (bytes : List ℕ) (calls : List Call) → limit_fault relation scheme ≡ None
        → AllByRecursion (λ e. e ≢ refused SchemeLimit) (events relation scheme (new_exchange records bytes) calls)
