-- The laws of a console that was just made.
use Rattle.std.proofs.Common.{◌≡◌, ◌≢◌, List, [], ◌∷◌, None, refl}
use Rattle.std.specs.List.{AllByRecursion}
use Rattle.relation.specs.Meaning.{RelationMeaning}
use Rattle.relation.specs.Laws.{KeyNumbers}
use Rattle.commitment.specs.Meaning.{SchemeMeaning}
use Rattle.moves.specs.Sizes.{limit_fault}
use Rattle.console_steps.specs.State.{ConsoleState, new_console}
use Rattle.console_steps.specs.Runs.{Call, Event, refused, untouched, after, event, events}
use Rattle.console_steps.specs.Laws.{ConsoleLaws}
use Rattle.console_steps.proofs.Faults.{impossible}
use Rattle.console_steps.proofs.Ways.{Way, stays, brings, commits_to, replies, clears, way}
use Rattle.console_steps.proofs.Answered.{free_at, valid_new, once}
use Rattle.console_steps.proofs.Held.{holds}

module _ {E : Type 0} (relation : RelationMeaning E) (scheme : SchemeMeaning) where
  not_56_told : (s t : ConsoleState) (e : Event) → Way relation scheme s t e → limit_fault relation scheme ≡ None → KeyNumbers relation → e ≡ refused 56 → ⊥
  not_56_told s t e (stays n k) none numbers q = k none numbers (cc)
  not_56_told s t e (brings line mask k) none numbers q = impossible (cc)
  not_56_told s t e (commits_to line count k) none numbers q = impossible (cc)
  not_56_told s t e (replies line count challenge k) none numbers q = impossible (cc)
  not_56_told s t e (clears slip k) none numbers q = impossible (cc)

  none_told : (s : ConsoleState) (calls : List (Call E)) → limit_fault relation scheme ≡ None → KeyNumbers relation → AllByRecursion (λ e. e ≢ refused 56) (events relation scheme s calls)
  none_told s [] none numbers = tt
  none_told s (call ∷ calls) none numbers =
      let t = after relation scheme s call in
      (not_56_told s t (event relation scheme s call) (way relation scheme s call) none numbers, none_told t calls none numbers)

  pub console_lawful : ConsoleLaws relation scheme
  console_lawful =
      record {
        answered_once = λ numbers coins calls. once relation scheme (new_console numbers coins) calls (valid_new numbers coins);
        lines_hold = λ numbers coins calls line _. holds relation scheme (new_console numbers coins) (new_console numbers coins) calls line untouched (valid_new numbers coins).four (free_at 4 line, refl, refl);
        limit_never = λ numbers coins calls none by_number. none_told (new_console numbers coins) calls none by_number;
      }
