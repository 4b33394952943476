-- What one call does: it is refused and changes nothing, or one of four things takes place.
use Rattle.std.proofs.Common.{◌≡◌, ℕ, ◌+◌, ◌≢◌, List, ◌++◌, length, set, Some, None, Option, sym, refl, ◌∙◌, subst}
use Rattle.std.proofs.lemmas.List.{length-set}
use Rattle.relation.specs.Meaning.{RelationMeaning}
use Rattle.relation.specs.Laws.{KeyNumbers}
use Rattle.commitment.specs.Meaning.{SchemeMeaning}
use Rattle.masks.specs.Mask.{Mask}
use Rattle.moves.specs.Sizes.{limit_fault}
use Rattle.moves.proofs.Findings.{or_else_none}
use Rattle.console_steps.specs.declared.lines.Line.TheVariants.{Free, Loaded, Committed}
use Rattle.console_steps.specs.State.{ConsoleState, console_state, Slip, loaded, committed, slip_line, put, cleared}
use Rattle.console_steps.specs.Steps.{load_fault, load_by, slip_fault, commit_fault, commit_by, answer_fault, answer_by, burn_by}
use Rattle.console_steps.specs.Runs.{Call, load, commit, answer, burn, Event, refused, loads, commits, answers, burns, loading, with_slip, after, event}
use Rattle.console_steps.proofs.Faults.{Not56, Loads, loads_from_fault, Fits, fits_from_fault, not_56_load, not_56_slip, not_56_commit, not_56_answer}

module _ {E : Type 0} (relation : RelationMeaning E) (scheme : SchemeMeaning) where
  pub data Way (s : ConsoleState) : ConsoleState → Event → Type 0 where
    stays : (n : ℕ) → (limit_fault relation scheme ≡ None → KeyNumbers relation → n ≢ 56) → Way s s (refused n)
    brings : (line : ℕ) (mask : Mask) → Loads relation scheme s line mask
        → Way s (put relation scheme s line (Loaded (s.loads + 1)) (s.loads + 1) (mask.permutations ++ (mask.layers ++ mask.free)) mask.coins) (loads line (s.loads + 1) mask)
    commits_to : (line count : ℕ) → Fits relation scheme s (loaded line count)
        → Way s (console_state (set s.lines line (Committed count)) s.loads s.numbers s.coins) (commits line count)
    replies : (line count challenge : ℕ) → Fits relation scheme s (committed line count) → Way s (cleared relation scheme s line) (answers line count challenge)
    clears : (slip : Slip) → Fits relation scheme s slip → Way s (cleared relation scheme s (slip_line slip)) (burns (slip_line slip))

  -- there are four lines after each call
  pub four_after : (s t : ConsoleState) (e : Event) → Way s t e → length s.lines ≡ 4 → length t.lines ≡ 4
  four_after s t e (stays m k) h = h
  four_after s t e (brings line mask k) h = length-set s.lines line (Loaded (s.loads + 1)) ∙ h
  four_after s t e (commits_to line count k) h = length-set s.lines line (Committed count) ∙ h
  four_after s t e (replies line count challenge k) h = length-set s.lines line Free ∙ h
  four_after s t e (clears slip k) h = length-set s.lines (slip_line slip) Free ∙ h

  module _ (s : ConsoleState) where
    load_way : (fault : Option ℕ) (line : ℕ) (mask : Mask) → fault ≡ load_fault relation scheme s line mask
        → Way s (load_by relation scheme fault s line mask).1 (loading mask line (load_by relation scheme fault s line mask).1.loads (load_by relation scheme fault s line mask).0)
    load_way (Some n) line mask e = stays n (λ none numbers. subst Not56 (sym e) (not_56_load relation scheme s line mask))
    load_way None line mask e = brings line mask (loads_from_fault relation scheme s line mask (sym e))

    commit_way : (fault : Option ℕ) (line count : ℕ) (key : List E) (work : ℕ) (out : List ℕ) → fault ≡ commit_fault relation scheme s (loaded line count) key work out
        → Way s (commit_by relation scheme fault s line count key out).1.0 (with_slip (commits line count) (commit_by relation scheme fault s line count key out).0)
    commit_way (Some n) line count key work out e = stays n (λ none numbers. subst Not56 (sym e) (not_56_commit relation scheme s numbers (loaded line count) key work out none))
    commit_way None line count key work out e =
        commits_to line count (fits_from_fault relation scheme s (loaded line count) (or_else_none (slip_fault relation scheme s (loaded line count)) _ (sym e)).0)

    answer_way : (fault : Option ℕ) (line count : ℕ) (key : List E) (challenge work : ℕ) (out : List ℕ) → fault ≡ answer_fault relation scheme s (committed line count) key challenge work out
        → Way s (answer_by relation scheme fault s line count key challenge out).1.0 (with_slip (answers line count challenge) (answer_by relation scheme fault s line count key challenge out).0)
    answer_way (Some n) line count key challenge work out e = stays n (λ none numbers. subst Not56 (sym e) (not_56_answer relation scheme s numbers (committed line count) key challenge work out))
    answer_way None line count key challenge work out e =
        replies line count challenge (fits_from_fault relation scheme s (committed line count) (or_else_none (slip_fault relation scheme s (committed line count)) _ (sym e)).0)

    burn_way : (fault : Option ℕ) (slip : Slip) → fault ≡ slip_fault relation scheme s slip
        → Way s (burn_by relation scheme fault s slip).1 (with_slip (burns (slip_line slip)) (burn_by relation scheme fault s slip).0)
    burn_way (Some n) slip e = stays n (λ none numbers. subst Not56 (sym e) (not_56_slip relation scheme s slip))
    burn_way None slip e = clears slip (fits_from_fault relation scheme s slip (sym e))

    pub way : (call : Call E) → Way s (after relation scheme s call) (event relation scheme s call)
    way (load line mask) = load_way (load_fault relation scheme s line mask) line mask refl
    way (commit line count key work out) = commit_way (commit_fault relation scheme s (loaded line count) key work out) line count key work out refl
    way (answer line count key challenge work out) =
        answer_way (answer_fault relation scheme s (committed line count) key challenge work out) line count key challenge work out refl
    way (burn slip) = burn_way (slip_fault relation scheme s slip) slip refl
