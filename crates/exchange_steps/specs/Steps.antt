-- What each call of the exchange answers and leaves. A refusal changes nothing.
use Rattle.std.specs.Prelude.{ℕ, ◌+◌, ◌%◌, Bool, cond, ◌||◌, List, [], ◌++◌, length, Some, None, Ok, Err, Option, Result, ◌==◌, nat_le, nat_lt, slice_index_or}
use Rattle.refusals.specs.declared.fault.Fault.{Fault}
use Rattle.refusals.specs.declared.cause.Cause.{Cause}
use Rattle.refusals.specs.declared.refusal.Refusal.{Refusal}
use Rattle.refusals.specs.declared.refusal.Refusal.TheVariants.{RoomShort, NoSuchExchangeLine, ExchangeLineInUse, LineNotOpened, DiceByte, LineNotChallenged, LogFull, LineAlreadyFree, SchemeLimit, Unreadable}
use Rattle.relation.specs.Meaning.{RelationMeaning}
use Rattle.commitment.specs.Meaning.{SchemeMeaning}
use Rattle.messages.specs.declared.challenge.Challenge.{Challenge}
use Rattle.messages.specs.declared.challenge.Challenge.TheVariants.{One, Two, Three}
use Rattle.messages.specs.Reading.{reading_fault, contents}
use Rattle.messages.specs.Contents.{commitment_slots}
use Rattle.moves.specs.Moves.{Triple}
use Rattle.moves.specs.Causes.{cause}
use Rattle.moves.specs.Sizes.{work_size, committed_size}
use Rattle.exchange_steps.specs.declared.lines.LineState.{LineState}
use Rattle.exchange_steps.specs.declared.lines.LineState.TheVariants.{Free, Opened, Challenged}
use Rattle.exchange_steps.specs.State.{ExchangeState, line_at, row_at, commitments_in, with_line, with_row, with_entry}

-- 40: there are lines 0 to 3
abbrev pub on_line : {T : Type 0} → ExchangeState → ℕ → Result T Refusal × ExchangeState → Result T Refusal × ExchangeState
on_line s line step = cond (nat_lt 3 line) (Err NoSuchExchangeLine, s) step

-- the three commitments of a message that was read
abbrev pub read_triple : ℕ → List ℕ → Triple
read_triple width message =
    let parts = contents (commitment_slots width) 0 message in record { one = slice_index_or parts 0 []; two = slice_index_or parts 1 []; three = slice_index_or parts 2 [] }

abbrev pub open_by : ℕ → Option Fault → ExchangeState → ℕ → List ℕ → Result (Unit {0}) Refusal × ExchangeState
open_by width (Some fault) s line message = (Err (Unreadable fault), s)
open_by width None s line message =
    let c = read_triple width message in (Ok tt, with_row s line Opened (c.one ++ (c.two ++ c.three)))

-- 41, then the reader's faults with their place
abbrev pub open_at : ℕ → LineState → ExchangeState → ℕ → List ℕ → Result (Unit {0}) Refusal × ExchangeState
open_at width Free s line message = open_by width (reading_fault (commitment_slots width) 0 message) s line message
open_at width Opened s line message = (Err ExchangeLineInUse, s)
open_at width (Challenged challenge) s line message = (Err ExchangeLineInUse, s)

abbrev pub open_step : ℕ → ExchangeState → ℕ → List ℕ → Result (Unit {0}) Refusal × ExchangeState
open_step width s line message = on_line s line (open_at width (line_at s line) s line message)

-- the challenge with the number byte mod 3, plus 1
abbrev pub thrown : ℕ → Challenge
thrown byte = cond (byte % 3 + 1 == 1) One (cond (byte % 3 + 1 == 2) Two Three)

-- 42, then 43
abbrev pub dice_at : LineState → ExchangeState → ℕ → ℕ → Result Challenge Refusal × ExchangeState
dice_at Free s line byte = (Err LineNotOpened, s)
dice_at Opened s line byte = cond (byte == 255) (Err DiceByte, s) (Ok (thrown byte), with_line s line (Challenged (thrown byte)))
dice_at (Challenged challenge) s line byte = (Err LineNotOpened, s)

abbrev pub dice_step : ExchangeState → ℕ → ℕ → Result Challenge Refusal × ExchangeState
dice_step s line byte = on_line s line (dice_at (line_at s line) s line byte)

-- 46
abbrev pub clear_at : LineState → ExchangeState → ℕ → Result (Unit {0}) Refusal × ExchangeState
clear_at Free s line = (Err LineAlreadyFree, s)
clear_at Opened s line = (Ok tt, with_line s line Free)
clear_at (Challenged challenge) s line = (Ok tt, with_line s line Free)

abbrev pub clear_step : ExchangeState → ℕ → Result (Unit {0}) Refusal × ExchangeState
clear_step s line = on_line s line (clear_at (line_at s line) s line)

-- the log cannot take a record or the answer's bytes
abbrev pub log_full : ExchangeState → List ℕ → Bool
log_full s message = nat_le (length s.records) s.entries || nat_lt (length s.bytes) (s.used + length message)

module _ {E : Type 0} (relation : RelationMeaning E) (scheme : SchemeMeaning) where
  -- a yes is logged, and the line is free either way; a verdict without a cause is a yes
  abbrev pub judged : Option Cause → ExchangeState → ℕ → Challenge → List ℕ → Result (Option Cause) Refusal × ExchangeState
  judged None s line challenge message = (Ok None, with_entry (with_line s line Free) (row_at s line) challenge message)
  judged (Some why) s line challenge message = (Ok (Some why), with_line s line Free)

  -- 45, then 37; 56 is met by no exchange that was made
  abbrev pub judge_challenged : ExchangeState → ℕ → Challenge → List ℕ → ℕ → Result (Option Cause) Refusal × ExchangeState
  judge_challenged s line challenge message work =
      cond (log_full s message) (Err LogFull, s)
      (cond (nat_lt scheme.limit (committed_size relation)) (Err SchemeLimit, s)
      (cond (nat_lt work (work_size relation)) (Err RoomShort, s)
      (judged (cause relation scheme (commitments_in scheme.width (row_at s line)) challenge message) s line challenge message)))

  -- 44
  abbrev pub judge_at : LineState → ExchangeState → ℕ → List ℕ → ℕ → Result (Option Cause) Refusal × ExchangeState
  judge_at Free s line message work = (Err LineNotChallenged, s)
  judge_at Opened s line message work = (Err LineNotChallenged, s)
  judge_at (Challenged challenge) s line message work = judge_challenged s line challenge message work

  -- `work` is the length of the work area
  abbrev pub judge_step : ExchangeState → ℕ → List ℕ → ℕ → Result (Option Cause) Refusal × ExchangeState
  judge_step s line message work = on_line s line (judge_at (line_at s line) s line message work)
