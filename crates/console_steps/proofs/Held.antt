-- Each line and its memory are what the line's history says.
use Rattle.std.proofs.Common.{◌≡◌, ℕ, ◌+◌, ◌*◌, ◌<◌, cond, eqb, ◌≢◌, List, [], ◌∷◌, ◌++◌, length, take, drop, set, sym, refl, ap, ◌∙◌, subst, ap₂, inl, inr, ⊎_elim, arith}
use Rattle.std.proofs.lemmas.List.{length-append, length-replicate, get_or-set_same, get_or-set_other, take-take, take_at, take_all, drop_at, drop-drop}
use Rattle.std.proofs.lemmas.Bool.{cases_eq, cond_both, eqb-true, eqb-false}
use Rattle.vectors.specs.Over.{zeros}
use Rattle.relation.specs.Meaning.{RelationMeaning}
use Rattle.commitment.specs.Meaning.{SchemeMeaning}
use Rattle.masks.specs.Mask.{Mask, mask_of, WellFormed}
use Rattle.console_steps.specs.declared.lines.Line.{Line}
use Rattle.console_steps.specs.declared.lines.Line.TheVariants.{Free, Loaded, Committed}
use Rattle.console_steps.specs.State.{ConsoleState, console_state, slip_line, part, line_at, mask_size, coins_size, numbers_start, coins_start, mask_on, put, cleared}
use Rattle.console_steps.specs.Runs.{Call, Event, History, untouched, holding, ended, after, event, run, events, next, history}
use Rattle.console_steps.specs.Laws.{Holds}
use Rattle.console_steps.proofs.Rows.{part-part, row_over, row_kept}
use Rattle.console_steps.proofs.Faults.{impossible, Room}
use Rattle.console_steps.proofs.Ways.{Way, stays, brings, commits_to, replies, clears, four_after, way}

-- a mask from a line's numbers and its coins
abbrev mask_of_rows : (size free : ℕ) (row coins : List ℕ) → Mask
mask_of_rows size free row coins = mask_of (take size row) (part size size row) (part (size + size) free row) coins

mask_of_row : (at size free : ℕ) (xs coins : List ℕ)
    → mask_of (part at size xs) (part (at + size) size xs) (part (at + size + size) free xs) coins ≡ mask_of_rows size free (part at (2 * size + free) xs) coins
mask_of_row at size free xs coins =
    let a : part at size xs ≡ take size (part at (2 * size + free) xs) = sym (take-take size (2 * size + free) (drop at xs) (omega arith)) in
    let b = part-part at (2 * size + free) size size xs (omega arith) in
    let c = part-part at (2 * size + free) (size + size) free xs (omega arith) in
    let e : at + (size + size) ≡ at + size + size = omega arith in
    cc

mask_written : (size free : ℕ) (ps ls fs coins : List ℕ) → length ps ≡ size → length ls ≡ size → length fs ≡ free → mask_of_rows size free (ps ++ (ls ++ fs)) coins ≡ mask_of ps ls fs coins
mask_written size free ps ls fs coins p l f =
    let a = take_at ps (ls ++ fs) size p in
    let b : part size size (ps ++ (ls ++ fs)) ≡ ls = ap (take size) (drop_at ps (ls ++ fs) size p) ∙ take_at ls fs size l in
    let c : part (size + size) free (ps ++ (ls ++ fs)) ≡ fs =
    ap (take free) (sym (drop-drop size size (ps ++ (ls ++ fs))) ∙ ap (drop size) (drop_at ps (ls ++ fs) size p) ∙ drop_at ls fs size l) ∙ take_all free fs (omega arith) in
    cc

module _ {E : Type 0} (relation : RelationMeaning E) (scheme : SchemeMeaning) where
  abbrev numbers_of : ConsoleState → ℕ → List ℕ
  numbers_of s line = part (numbers_start relation scheme line) (mask_size relation scheme) s.numbers

  abbrev coins_of : ConsoleState → ℕ → List ℕ
  coins_of s line = part (coins_start relation scheme line) (coins_size relation scheme) s.coins

  mask_from_rows : (s : ConsoleState) (line : ℕ) → mask_on relation scheme s line ≡ mask_of_rows (relation.layer_count * relation.layer_len) relation.free_len (numbers_of s line) (coins_of s line)
  mask_from_rows s line = mask_of_row (numbers_start relation scheme line) (relation.layer_count * relation.layer_len) relation.free_len s.numbers (coins_of s line)

  -- two states have the same on a line
  record Same (s t : ConsoleState) (line : ℕ) : Type 0 where
    state : line_at t line ≡ line_at s line
    numbers : numbers_of t line ≡ numbers_of s line
    coins : coins_of t line ≡ coins_of s line

  holds_same : (start s t : ConsoleState) (line : ℕ) (h : History) → Same s t line → Holds relation scheme start s line h → Holds relation scheme start t line h
  holds_same start s t line untouched k p = (k.state ∙ p.0, k.numbers ∙ p.1, k.coins ∙ p.2)
  holds_same start s t line (holding count mask) k p = (
    ⊎_elim (λ (x : line_at s line ≡ Loaded count). inl (k.state ∙ x)) (λ (x : line_at s line ≡ Committed count). inr (k.state ∙ x)) p.0,
    mask_from_rows t line ∙ ap₂ (mask_of_rows (relation.layer_count * relation.layer_len) relation.free_len) k.numbers k.coins ∙ sym (mask_from_rows s line) ∙ p.1,
  )
  holds_same start s t line ended k p = (k.state ∙ p.0, k.numbers ∙ p.1, k.coins ∙ p.2)

  -- between two states one line was set and its numbers and coins were written
  record Writes (s t : ConsoleState) (line : ℕ) (state : Line) (numbers coins : List ℕ) : Type 0 where
    state_is : line_at t line ≡ state
    numbers_are : numbers_of t line ≡ numbers
    coins_are : coins_of t line ≡ coins
    others : (j : ℕ) → j ≢ line → Same s t j

  writes_put : (s : ConsoleState) (line : ℕ) (state : Line) (count : ℕ) (numbers coins : List ℕ) → length s.lines ≡ 4 → line < 4 → Room relation scheme s
      → length numbers ≡ mask_size relation scheme → length coins ≡ coins_size relation scheme → Writes s (put relation scheme s line state count numbers coins) line state numbers coins
  writes_put s line state count numbers coins four inside room n c =
      record {
        state_is = get_or-set_same s.lines line state Free (omega arith);
        numbers_are = row_over 4 (mask_size relation scheme) line s.numbers numbers inside room.numbers n;
        coins_are = row_over 4 (coins_size relation scheme) line s.coins coins inside room.coins c;
        others = λ j d. record {
          state = get_or-set_other s.lines line j state Free d;
          numbers = row_kept 4 (mask_size relation scheme) line s.numbers numbers inside room.numbers n j d;
          coins = row_kept 4 (coins_size relation scheme) line s.coins coins inside room.coins c j d;
        };
      }

  module _ (start s : ConsoleState) where
    -- one line has a new history, and the others are as they were
    holds_at : (t : ConsoleState) (line : ℕ) (new : History) → Holds relation scheme start t line new → ((j : ℕ) → j ≢ line → Same s t j)
        → (j : ℕ) (h : History) → Holds relation scheme start s j h → Holds relation scheme start t j (cond (eqb line j) new h)
    holds_at t line new here others j h p =
        cond_both (eqb line j) new h (Holds relation scheme start t j) (λ e. subst (λ i. Holds relation scheme start t i new) (eqb-true line j e) here)
        (λ e. holds_same start s t j h (others j (λ d. eqb-false line j e (sym d))) p)

    holds_loaded : (t : ConsoleState) (line count : ℕ) (mask : Mask) → WellFormed relation scheme.width mask
        → Writes s t line (Loaded count) (mask.permutations ++ (mask.layers ++ mask.free)) mask.coins → Holds relation scheme start t line (holding count mask)
    holds_loaded t line count mask formed w =
        let size = relation.layer_count * relation.layer_len in (
          inl w.state_is,
          mask_from_rows t line ∙ ap₂ (mask_of_rows size relation.free_len) w.numbers_are w.coins_are
              ∙ mask_written size relation.free_len mask.permutations mask.layers mask.free mask.coins formed.permutations.size formed.layers.0 formed.free.0,
        )

    holds_cleared : (line : ℕ) → length s.lines ≡ 4 → line < 4 → Room relation scheme s → (j : ℕ) (h : History) → Holds relation scheme start s j h
        → Holds relation scheme start (cleared relation scheme s line) j (cond (eqb line j) ended h)
    holds_cleared line four inside room =
        let w = writes_put s line Free s.loads (zeros (mask_size relation scheme)) (zeros (coins_size relation scheme)) four inside room (length-replicate _ 0) (length-replicate _ 0) in
        holds_at (cleared relation scheme s line) line ended (w.state_is, w.numbers_are, w.coins_are) w.others

    abbrev committed_state : ℕ → ℕ → ConsoleState
    committed_state line count = console_state (set s.lines line (Committed count)) s.loads s.numbers s.coins

    holds_committed_here : (line count : ℕ) → line < length s.lines → line_at s line ≡ Loaded count → (h : History) → Holds relation scheme start s line h → Holds relation scheme start (committed_state line count) line h
    holds_committed_here line count inside e untouched p = let q = p.0 in impossible (cc)
    holds_committed_here line count inside e (holding number mask) p =
        let t = get_or-set_same s.lines line (Committed count) Free inside in (
          ⊎_elim (λ (x : line_at s line ≡ Loaded number). inr (cc)) (λ (x : line_at s line ≡ Committed number). impossible (cc)) p.0,
          p.1,
        )
    holds_committed_here line count inside e ended p = let q = p.0 in impossible (cc)

    holds_committed : (line count : ℕ) → line < length s.lines → line_at s line ≡ Loaded count → (j : ℕ) (h : History) → Holds relation scheme start s j h → Holds relation scheme start (committed_state line count) j h
    holds_committed line count inside e j h p =
        ⊎_elim (λ (d : j ≡ line). subst (λ i. Holds relation scheme start (committed_state line count) i h) (sym d) (holds_committed_here line count inside e h (subst (λ i. Holds relation scheme start s i h) d p)))
        (λ (d : j ≢ line). holds_same start s (committed_state line count) j h (record { state = get_or-set_other s.lines line j (Committed count) Free d; numbers = refl; coins = refl }) p) (cases_eq j line)

  holds_after : (start s t : ConsoleState) (e : Event) → Way relation scheme s t e → length s.lines ≡ 4 → (j : ℕ) (h : History) → Holds relation scheme start s j h → Holds relation scheme start t j (next j h e)
  holds_after start s t e (stays m k) four j h p = p
  holds_after start s t e (brings line mask k) four j h p =
      let formed = k.mask_formed in
      let n : length (mask.permutations ++ (mask.layers ++ mask.free)) ≡ mask_size relation scheme =
      omega (arith, length-append mask.permutations (mask.layers ++ mask.free), length-append mask.layers mask.free, formed.permutations.size, formed.layers.0, formed.free.0) in
      let w = writes_put s line (Loaded (s.loads + 1)) (s.loads + 1) (mask.permutations ++ (mask.layers ++ mask.free)) mask.coins four k.inside k.room n formed.coins in
      holds_at start s t line (holding (s.loads + 1) mask) (holds_loaded start s t line (s.loads + 1) mask formed w) w.others j h p
  holds_after start s t e (commits_to line count k) four j h p = holds_committed start s line count (omega (arith, k.inside)) k.carried j h p
  holds_after start s t e (replies line count challenge k) four j h p = holds_cleared start s line four k.inside k.room j h p
  holds_after start s t e (clears slip k) four j h p = holds_cleared start s (slip_line slip) four k.inside k.room j h p

  pub holds : (start s : ConsoleState) (calls : List (Call E)) (line : ℕ) (h : History) → length s.lines ≡ 4 → Holds relation scheme start s line h
      → Holds relation scheme start (run relation scheme s calls) line (history line h (events relation scheme s calls))
  holds start s [] line h four p = p
  holds start s (call ∷ calls) line h four p =
      let t = after relation scheme s call in
      let e = event relation scheme s call in
      let w = way relation scheme s call in
      holds start t calls line (next line h e) (four_after relation scheme s t e w four) (holds_after start s t e w four line h p)
