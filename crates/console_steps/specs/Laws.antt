-- What holds over every list of calls of a console that was just made.
use Rattle.std.specs.Prelude.{◌≡◌, ℕ, ◌<◌, ◌≢◌, ◌⊎◌, List, [], ◌∷◌, None}
use Rattle.std.specs.List.{AllByRecursion}
use Rattle.vectors.specs.Over.{zeros}
use Rattle.relation.specs.Meaning.{RelationMeaning}
use Rattle.relation.specs.Laws.{KeyNumbers}
use Rattle.commitment.specs.Meaning.{SchemeMeaning}
use Rattle.moves.specs.Sizes.{limit_fault}
use Rattle.console_steps.specs.declared.lines.Line.TheVariants.{Free, Loaded, Committed}
use Rattle.console_steps.specs.State.{ConsoleState, part, line_at, mask_on, mask_size, coins_size, numbers_start, coins_start, new_console}
use Rattle.console_steps.specs.Runs.{Call, refused, History, untouched, holding, ended, run, events, answered, history}

-- no number stands in the list twice
abbrev pub Once : List ℕ → Type 0
Once [] = Unit {0}
Once (x ∷ xs) = AllByRecursion (λ y. y ≢ x) xs × Once xs

module _ {E : Type 0} (relation : RelationMeaning E) (scheme : SchemeMeaning) where
  -- what a line and its memory are by its history; `start` is the console just made
  abbrev pub Holds : ConsoleState → ConsoleState → ℕ → History → Type 0
  Holds start s line untouched =
      (line_at s line ≡ Free)
      × (part (numbers_start relation scheme line) (mask_size relation scheme) s.numbers ≡ part (numbers_start relation scheme line) (mask_size relation scheme) start.numbers)
      × (part (coins_start relation scheme line) (coins_size relation scheme) s.coins ≡ part (coins_start relation scheme line) (coins_size relation scheme) start.coins)
  Holds start s line (holding count mask) =
      ((line_at s line ≡ Loaded count) ⊎ (line_at s line ≡ Committed count)) × (mask_on relation scheme s line ≡ mask)
  Holds start s line ended =
      (line_at s line ≡ Free)
      × (part (numbers_start relation scheme line) (mask_size relation scheme) s.numbers ≡ zeros (mask_size relation scheme))
      × (part (coins_start relation scheme line) (coins_size relation scheme) s.coins ≡ zeros (coins_size relation scheme))

  pub record ConsoleLaws : Type 0 where
    -- no load's mask is answered twice
    pub answered_once : (numbers coins : List ℕ) (calls : List (Call E)) → Once (answered (events relation scheme (new_console numbers coins) calls))
    -- the masks of loaded and committed lines are the ones that were loaded; after an answer or a burn the line's memory is zeros until the next load
    pub lines_hold : (numbers coins : List ℕ) (calls : List (Call E)) (line : ℕ) → line < 4
        → Holds (new_console numbers coins) (run relation scheme (new_console numbers coins) calls) line (history line untouched (events relation scheme (new_console numbers coins) calls))
    -- where the scheme's limit suffices, as it does for every console that was made, and keys are refused by the key's numbers, no call is
    -- refused by 56
    pub limit_never : (numbers coins : List ℕ) (calls : List (Call E)) → limit_fault relation scheme ≡ None → KeyNumbers relation
        → AllByRecursion (λ e. e ≢ refused 56) (events relation scheme (new_console numbers coins) calls)
