-- What each call of the console answers and leaves. A refusal is told by its number; it gives a slip back and changes nothing.
use Rattle.std.specs.Prelude.{ℕ, ◌+◌, cond, not, ◌||◌, List, ◌++◌, length, Some, None, Ok, Err, Option, Result, ◌==◌, nat_lt, slice_set}
use Rattle.vectors.specs.Over.{over}
use Rattle.relation.specs.Meaning.{RelationMeaning}
use Rattle.commitment.specs.Meaning.{SchemeMeaning}
use Rattle.masks.specs.Mask.{Mask, mask_fault}
use Rattle.messages.specs.Checks.{or_else}
use Rattle.console_moves.specs.Faults as moves
use Rattle.console_steps.specs.declared.lines.Line.{Line}
use Rattle.console_steps.specs.declared.lines.Line.TheVariants.{Free, Loaded, Committed}
use Rattle.console_steps.specs.State.{ConsoleState, console_state, Slip, loaded, committed, slip_line, slip_state, same_line, line_at, mask_on, memory_fault, put, cleared}

-- 30: there are lines 0 to 3
abbrev pub line_fault : ℕ → Option ℕ
line_fault line = cond (nat_lt 3 line) (Some 30) None

-- 31
abbrev pub free_fault : ConsoleState → ℕ → Option ℕ
free_fault s line = cond (same_line (line_at s line) Free) None (Some 31)

-- 34: the last load is number 65,535
abbrev pub loads_fault : ConsoleState → Option ℕ
loads_fault s = cond (s.loads == 65535) (Some 34) None

module _ {E : Type 0} (relation : RelationMeaning E) (scheme : SchemeMeaning) where
  abbrev pub load_fault : ConsoleState → ℕ → Mask → Option ℕ
  load_fault s line mask =
      or_else (memory_fault relation scheme s)
      (or_else (line_fault line)
      (or_else (free_fault s line)
      (or_else (mask_fault relation scheme.width mask)
      (loads_fault s))))

  -- 35, then 36: the line does not carry a slip that asks for this state
  abbrev pub carry_fault : ConsoleState → ℕ → Line → Option ℕ
  carry_fault s line state =
      or_else (memory_fault relation scheme s) (cond (nat_lt 3 line || not (same_line (line_at s line) state)) (Some 36) None)

  abbrev pub slip_fault : ConsoleState → Slip → Option ℕ
  slip_fault s slip = carry_fault s (slip_line slip) (slip_state slip)

  -- `work` is the length of the work area, and `out` is the output
  abbrev pub commit_fault : ConsoleState → Slip → List E → ℕ → List ℕ → Option ℕ
  commit_fault s slip key work out =
      or_else (slip_fault s slip) (moves.commit_fault relation scheme key (mask_on relation scheme s (slip_line slip)) work (length out))

  abbrev pub answer_fault : ConsoleState → Slip → List E → ℕ → ℕ → List ℕ → Option ℕ
  answer_fault s slip key challenge work out =
      or_else (slip_fault s slip) (moves.answer_fault relation scheme key (mask_on relation scheme s (slip_line slip)) challenge work (length out))

  abbrev pub load_by : Option ℕ → ConsoleState → ℕ → Mask → Result Slip ℕ × ConsoleState
  load_by (Some n) s line mask = (Err n, s)
  load_by None s line mask = (
    Ok (loaded line (s.loads + 1)),
    put relation scheme s line (Loaded (s.loads + 1)) (s.loads + 1) (mask.permutations ++ (mask.layers ++ mask.free)) mask.coins,
  )

  abbrev pub load_step : ConsoleState → ℕ → Mask → Result Slip ℕ × ConsoleState
  load_step s line mask = load_by (load_fault s line mask) s line mask

  abbrev pub commit_by : Option ℕ → ConsoleState → (line count : ℕ) → List E → List ℕ → Result (Slip × ℕ) (Slip × ℕ) × (ConsoleState × List ℕ)
  commit_by (Some n) s line count key out = (Err (loaded line count, n), (s, out))
  commit_by None s line count key out =
      let message = moves.commitments_message relation scheme key (mask_on relation scheme s line) in (
        Ok (committed line count, length message),
        (console_state (slice_set s.lines line (Committed count)) s.loads s.numbers s.coins, over out 0 message),
      )

  abbrev pub commit_step : ConsoleState → (line count : ℕ) → List E → ℕ → List ℕ → Result (Slip × ℕ) (Slip × ℕ) × (ConsoleState × List ℕ)
  commit_step s line count key work out = commit_by (commit_fault s (loaded line count) key work out) s line count key out

  abbrev pub answer_by : Option ℕ → ConsoleState → (line count : ℕ) → List E → ℕ → List ℕ → Result ℕ (Slip × ℕ) × (ConsoleState × List ℕ)
  answer_by (Some n) s line count key challenge out = (Err (committed line count, n), (s, out))
  answer_by None s line count key challenge out =
      let message = moves.answer_message relation scheme key (mask_on relation scheme s line) challenge in
      (Ok (length message), (cleared relation scheme s line, over out 0 message))

  abbrev pub answer_step : ConsoleState → (line count : ℕ) → List E → ℕ → ℕ → List ℕ → Result ℕ (Slip × ℕ) × (ConsoleState × List ℕ)
  answer_step s line count key challenge work out = answer_by (answer_fault s (committed line count) key challenge work out) s line count key challenge out

  abbrev pub burn_by : Option ℕ → ConsoleState → Slip → Result (Unit {0}) (Slip × ℕ) × ConsoleState
  burn_by (Some n) s slip = (Err (slip, n), s)
  burn_by None s slip = (Ok tt, cleared relation scheme s (slip_line slip))

  abbrev pub burn_step : ConsoleState → Slip → Result (Unit {0}) (Slip × ℕ) × ConsoleState
  burn_step s slip = burn_by (slip_fault s slip) s slip
