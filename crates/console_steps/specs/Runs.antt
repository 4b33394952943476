-- Lists of console calls. A slip is any line and any number, so that nothing leans on how slips are passed on.
use Rattle.std.specs.Prelude.{ℕ, cond, List, [], ◌∷◌, Ok, Err, Result, ◌==◌}
use Rattle.relation.specs.Meaning.{RelationMeaning}
use Rattle.commitment.specs.Meaning.{SchemeMeaning}
use Rattle.masks.specs.Mask.{Mask}
use Rattle.console_steps.specs.State.{ConsoleState, Slip, slip_line}
use Rattle.console_steps.specs.Steps.{load_step, commit_step, answer_step, burn_step}

-- a call with all that its caller chooses; the lines' memory is part of the state
pub data Call (E : Type 0) : Type 0 where
  load : (line : ℕ) (mask : Mask) → Call E
  -- with the slip's line and number, the key, the length of the work area, and the output
  commit : (line count : ℕ) (key : List E) (work : ℕ) (out : List ℕ) → Call E
  answer : (line count : ℕ) (key : List E) (challenge work : ℕ) (out : List ℕ) → Call E
  burn : Slip → Call E

-- what a call told: its refusal's number, or what took place
pub data Event : Type 0 where
  refused : ℕ → Event
  loads : (line count : ℕ) (mask : Mask) → Event
  commits : (line count : ℕ) → Event
  answers : (line count challenge : ℕ) → Event
  burns : (line : ℕ) → Event

abbrev pub loading : Mask → ℕ → ℕ → Result Slip ℕ → Event
loading mask line count (Ok slip) = loads line count mask
loading mask line count (Err n) = refused n

-- `event` where a call that takes a slip was done
abbrev pub with_slip : {T : Type 0} → Event → Result T (Slip × ℕ) → Event
with_slip event (Ok value) = event
with_slip event (Err back) = refused back.1

module _ {E : Type 0} (relation : RelationMeaning E) (scheme : SchemeMeaning) where
  abbrev pub after : ConsoleState → Call E → ConsoleState
  after s (load line mask) = (load_step relation scheme s line mask).1
  after s (commit line count key work out) = (commit_step relation scheme s line count key work out).1.0
  after s (answer line count key challenge work out) = (answer_step relation scheme s line count key challenge work out).1.0
  after s (burn slip) = (burn_step relation scheme s slip).1

  abbrev pub event : ConsoleState → Call E → Event
  event s (load line mask) = loading mask line (after s (load line mask)).loads (load_step relation scheme s line mask).0
  event s (commit line count key work out) = with_slip (commits line count) (commit_step relation scheme s line count key work out).0
  event s (answer line count key challenge work out) = with_slip (answers line count challenge) (answer_step relation scheme s line count key challenge work out).0
  event s (burn slip) = with_slip (burns (slip_line slip)) (burn_step relation scheme s slip).0

  -- the state after a list of calls, and what each of them told
  abbrev pub run : ConsoleState → List (Call E) → ConsoleState
  run s [] = s
  run s (call ∷ calls) = run (after s call) calls

  abbrev pub events : ConsoleState → List (Call E) → List Event
  events s [] = []
  events s (call ∷ calls) = event s call ∷ events (after s call) calls

-- the numbers of the loads whose masks were answered
abbrev pub answered : List Event → List ℕ
answered [] = []
answered (refused n ∷ events) = answered events
answered (loads line count mask ∷ events) = answered events
answered (commits line count ∷ events) = answered events
answered (answers line count challenge ∷ events) = count ∷ answered events
answered (burns line ∷ events) = answered events

-- what last took place on a line: nothing, a load whose mask is still there, or an answer or a burn
pub data History : Type 0 where
  untouched : History
  holding : (count : ℕ) (mask : Mask) → History
  ended : History

abbrev pub next : ℕ → History → Event → History
next line before (refused n) = before
next line before (loads l count mask) = cond (l == line) (holding count mask) before
next line before (commits l count) = before
next line before (answers l count challenge) = cond (l == line) ended before
next line before (burns l) = cond (l == line) ended before

abbrev pub history : ℕ → History → List Event → History
history line before [] = before
history line before (event ∷ events) = history line (next line before event) events
