-- What every call keeps, what it makes of a line, and what it adds to the log.
use Rattle.std.proofs.Common.{◌≡◌, ℕ, ◌+◌, ◌<◌, ◌≤◌, false, cond, eqb, ltb, leb, ◌≢◌, List, [], ◌∷◌, ◌++◌, map, length, get_or, take, drop, set, sym, refl, ap, ◌∙◌, subst, ⊎_elim, arith}
use Rattle.std.specs.List.{range_with_len, AllByRecursion}
use Rattle.std.proofs.lemmas.List.{length-set, get_or-set_same, get_or-set_other, append-nil}
use Rattle.std.proofs.lemmas.List.FromFn.{map-range_with_len_more}
use Rattle.std.proofs.lemmas.Bool.{cases_eq, eq-eqb, ne_eqb, or_parts, leb-false, ltb-false}
use Rattle.relation.specs.Meaning.{RelationMeaning}
use Rattle.relation.specs.Laws.{RelationLaws}
use Rattle.commitment.specs.Meaning.{SchemeMeaning, SchemeLaws}
use Rattle.vectors.specs.Over.{over}
use Rattle.vectors.proofs.Over.{length_over, part-over}
use Rattle.messages.specs.declared.challenge.Challenge.{Challenge}
use Rattle.moves.specs.Moves.{Triple}
use Rattle.moves.proofs.Deciding.{decided}
use Rattle.exchange_moves.specs.Verdicts.{Proves}
use Rattle.exchange_steps.specs.declared.lines.LineState.{LineState}
use Rattle.exchange_steps.specs.declared.lines.LineState.TheVariants.{Free, Opened, Challenged}
use Rattle.exchange_steps.specs.declared.log.Record.{Record}
use Rattle.exchange_steps.specs.State.{ExchangeState, Entry, line_at, row_at, commitments_in, with_line, with_row, with_entry, no_record, entry_in}
use Rattle.exchange_steps.specs.Steps.{read_triple, log_full}
use Rattle.exchange_steps.specs.Runs.{Call, Event, Bytes, History, idle, opened, challenged, thrown_on, next, entry_of, entry_by}
use Rattle.exchange_steps.specs.Laws.{Holds, log_in}
use Rattle.exchange_steps.proofs.Memory.{part-before, same_counted, commitments_read}
use Rattle.exchange_steps.proofs.Ways.{impossible, Way, refuses, opening, throwing, yes, no, clearing}

-- the memory that a state uses is there
pub record Sound (s : ExchangeState) : Type 0 where
  pub lines_there : length s.lines ≡ 4
  pub rows_there : length s.table ≡ 4
  pub entries_there : s.entries ≤ length s.records
  pub used_there : s.used ≤ length s.bytes
  pub recorded : (i : ℕ) → i < s.entries → (get_or s.records i no_record).start + (get_or s.records i no_record).len ≤ s.used

pub record Room (s : ExchangeState) (message : List ℕ) : Type 0 where
  pub record_fits : s.entries < length s.records
  pub answer_fits : s.used + length message ≤ length s.bytes

room_from_log_full : (s : ExchangeState) (message : List ℕ) → log_full s message ≡ false → Room s message
room_from_log_full s message h =
    let both = or_parts (leb (length s.records) s.entries) (ltb (length s.bytes) (s.used + length message)) h in
    record { record_fits = leb-false (length s.records) s.entries both.0; answer_fits = ltb-false (length s.bytes) (s.used + length message) both.1 }

module _ (s : ExchangeState) (sound : Sound s) where
  sound_line : (line : ℕ) (state : LineState) → Sound (with_line s line state)
  sound_line line state = record {
    lines_there = length-set s.lines line state ∙ sound.lines_there;
    rows_there = sound.rows_there;
    entries_there = sound.entries_there;
    used_there = sound.used_there;
    recorded = sound.recorded;
  }

  sound_row : (line : ℕ) (state : LineState) (commitments : List ℕ) → Sound (with_row s line state commitments)
  sound_row line state commitments = record {
    lines_there = length-set s.lines line state ∙ sound.lines_there;
    rows_there = length-set s.table line (over (row_at s line) 0 commitments) ∙ sound.rows_there;
    entries_there = sound.entries_there;
    used_there = sound.used_there;
    recorded = sound.recorded;
  }

  module _ (row : List ℕ) (challenge : Challenge) (message : List ℕ) (room : Room s message) where
    abbrev fresh : Record
    fresh = record { commitments = row; challenge = challenge; start = s.used; len = length message }

    record_new : get_or (set s.records s.entries fresh) s.entries no_record ≡ fresh
    record_new = get_or-set_same s.records s.entries fresh no_record room.record_fits

    record_old : (i : ℕ) → i < s.entries → get_or (set s.records s.entries fresh) i no_record ≡ get_or s.records i no_record
    record_old i l = get_or-set_other s.records s.entries i fresh no_record (λ e. omega arith)

    ends_new : (i : ℕ) → i ≡ s.entries
        → (get_or (set s.records s.entries fresh) i no_record).start + (get_or (set s.records s.entries fresh) i no_record).len ≤ s.used + length message
    ends_new i e = rw (e, record_new) (omega arith)

    ends_old : (i : ℕ) → i < s.entries
        → (get_or (set s.records s.entries fresh) i no_record).start + (get_or (set s.records s.entries fresh) i no_record).len ≤ s.used + length message
    ends_old i l = rw (record_old i l) (omega (arith, sound.recorded i l))

    sound_entry : Sound (with_entry s row challenge message)
    sound_entry = record {
      lines_there = sound.lines_there;
      rows_there = sound.rows_there;
      entries_there = omega (arith, length-set s.records s.entries fresh, room.record_fits);
      used_there = omega (arith, length_over s.bytes s.used message room.answer_fits, room.answer_fits);
      recorded = λ i l. ⊎_elim (λ e. ends_new i e) (λ d. ends_old i (omega arith)) (cases_eq i s.entries);
    }

    module _ (width : ℕ) where
      abbrev entry_from : Record → List ℕ → Entry
      entry_from r bytes = record { commitments = commitments_in width r.commitments; challenge = r.challenge; message = take r.len (drop r.start bytes) }

      entry_old : (i : ℕ) → i < s.entries → entry_in width (with_entry s row challenge message) i ≡ entry_in width s i
      entry_old i l =
          let r : Record = get_or s.records i no_record in
          ap (λ r. entry_from r (over s.bytes s.used message)) (record_old i l)
          ∙ ap (λ m. record { commitments = commitments_in width r.commitments; challenge = r.challenge; message = m })
          (part-before s.bytes s.used message r.start r.len (sound.recorded i l) sound.used_there)

      entry_new : entry_in width (with_entry s row challenge message) s.entries ≡ record { commitments = commitments_in width row; challenge = challenge; message = message }
      entry_new =
          ap (λ r. entry_from r (over s.bytes s.used message)) record_new
          ∙ ap (λ m. record { commitments = commitments_in width row; challenge = challenge; message = m }) (part-over s.bytes s.used message room.answer_fits)

      log_entry : map (entry_in width (with_entry s row challenge message)) (range_with_len 0 (s.entries + 1))
          ≡ map (entry_in width s) (range_with_len 0 s.entries) ++ record { commitments = commitments_in width row; challenge = challenge; message = message } ∷ []
      log_entry =
          let all = map-range_with_len_more (entry_in width (with_entry s row challenge message)) 0 s.entries s.entries (omega arith) in
          let old = same_counted (entry_in width (with_entry s row challenge message)) (entry_in width s) s.entries entry_old (entry_in width s 0) in
          let new = entry_new in
          cc

module _ {E : Type 0} (relation : RelationMeaning E) (scheme : SchemeMeaning) where
  abbrev width : ℕ
  width = scheme.width

  pub sound_after : (call : Call) (s t : ExchangeState) (e : Event) → Way relation scheme call s t e → Sound s → Sound t
  sound_after call s t e (refuses refusal h) sound = sound
  sound_after call s t e (opening line message l h) sound = sound_row s sound line Opened _
  sound_after call s t e (throwing line challenge l h) sound = sound_line s sound line (Challenged challenge)
  sound_after call s t e (yes line challenge message l h f c b) sound =
      sound_entry (with_line s line Free) (sound_line s sound line Free) (row_at s line) challenge message (room_from_log_full (with_line s line Free) message f)
  sound_after call s t e (no line why l) sound = sound_line s sound line Free
  sound_after call s t e (clearing line l) sound = sound_line s sound line Free

  -- a line's history tells of its state and its row alone
  holds_same : (s t : ExchangeState) (line : ℕ) (h : History) → line_at t line ≡ line_at s line → row_at t line ≡ row_at s line → Holds relation scheme s line h → Holds relation scheme t line h
  holds_same s t line idle a b k = a ∙ k
  holds_same s t line (opened c) a b k = (a ∙ k.0, ap (commitments_in width) b ∙ k.1)
  holds_same s t line (challenged c challenge) a b k = (a ∙ k.0, ap (commitments_in width) b ∙ k.1)

  -- a call on line l
  module _ (t : ExchangeState) (l line : ℕ) (h new : History) where
    holds_by : (l ≡ line → Holds relation scheme t line new) → (l ≢ line → Holds relation scheme t line h) → Holds relation scheme t line (cond (eqb l line) new h)
    holds_by here there =
        ⊎_elim (λ (e : l ≡ line). subst (λ b. Holds relation scheme t line (cond b new h)) (sym (eq-eqb l line e)) (here e))
        (λ (d : l ≢ line). subst (λ b. Holds relation scheme t line (cond b new h)) (sym (ne_eqb l line d)) (there d)) (cases_eq l line)

  module _ (s : ExchangeState) (sound : Sound s) (l : ℕ) (within : l < 4) (line : ℕ) (h : History) (k : Holds relation scheme s line h) where
    line_here : (state : LineState) → l ≡ line → line_at (with_line s l state) line ≡ state
    line_here state e = ap (λ i. get_or (set s.lines l state) i Free) (sym e) ∙ get_or-set_same s.lines l state Free (omega (arith, sound.lines_there))

    line_there : (state : LineState) → l ≢ line → line_at (with_line s l state) line ≡ line_at s line
    line_there state d = get_or-set_other s.lines l line state Free (λ e. d (sym e))

    row_here : (row : List ℕ) → l ≡ line → get_or (set s.table l row) line [] ≡ row
    row_here row e = ap (λ i. get_or (set s.table l row) i []) (sym e) ∙ get_or-set_same s.table l row [] (omega (arith, sound.rows_there))

    row_there : (row : List ℕ) → l ≢ line → get_or (set s.table l row) line [] ≡ row_at s line
    row_there row d = get_or-set_other s.table l line row [] (λ e. d (sym e))

    holds_free : Holds relation scheme (with_line s l Free) line (cond (eqb l line) idle h)
    holds_free =
        holds_by (with_line s l Free) l line h idle (line_here Free) (λ d. holds_same s (with_line s l Free) line h (line_there Free d) refl k)

    holds_opened : (c : Triple) (row : List ℕ) → commitments_in width (over (row_at s l) 0 row) ≡ c → Holds relation scheme (with_row s l Opened row) line (cond (eqb l line) (opened c) h)
    holds_opened c row e =
        holds_by (with_row s l Opened row) l line h (opened c)
        (λ i. (line_here Opened i, ap (commitments_in width) (row_here (over (row_at s l) 0 row) i) ∙ e))
        (λ d. holds_same s (with_row s l Opened row) line h (line_there Opened d) (row_there (over (row_at s l) 0 row) d) k)

    thrown_here : (challenge : Challenge) (h : History) → line_at s line ≡ Opened → l ≡ line → Holds relation scheme s line h
        → Holds relation scheme (with_line s l (Challenged challenge)) line (thrown_on challenge h)
    thrown_here challenge idle o i k = impossible (cc)
    thrown_here challenge (opened c) o i k = (line_here (Challenged challenge) i, k.1)
    thrown_here challenge (challenged c earlier) o i k = let a = k.0 in impossible (cc)

    holds_thrown : (challenge : Challenge) → line_at s l ≡ Opened → Holds relation scheme (with_line s l (Challenged challenge)) line (cond (eqb l line) (thrown_on challenge h) h)
    holds_thrown challenge o =
        holds_by (with_line s l (Challenged challenge)) l line h (thrown_on challenge h)
        (λ i. thrown_here challenge h (ap (λ j. line_at s j) (sym i) ∙ o) i k)
        (λ d. holds_same s (with_line s l (Challenged challenge)) line h (line_there (Challenged challenge) d) refl k)

  pub holds_after : (call : Call) (s t : ExchangeState) (e : Event) → Way relation scheme call s t e → Sound s → (line : ℕ) (h : History)
      → Holds relation scheme s line h → Holds relation scheme t line (next line h e)
  holds_after call s t e (refuses refusal r) sound line h k = k
  holds_after call s t e (opening l message within r) sound line h k =
      holds_opened s sound l within line h k (read_triple width message) _ (commitments_read width (row_at s l) message r)
  holds_after call s t e (throwing l challenge within o) sound line h k = holds_thrown s sound l within line h k challenge o
  holds_after call s t e (yes l challenge message within o f c b) sound line h k =
      holds_same (with_line s l Free) (with_entry (with_line s l Free) (row_at s l) challenge message) line (cond (eqb l line) idle h) refl refl (holds_free s sound l within line h k)
  holds_after call s t e (no l why within) sound line h k = holds_free s sound l within line h k
  holds_after call s t e (clearing l within) sound line h k = holds_free s sound l within line h k

  abbrev entry_now : ExchangeState → ℕ → Challenge → List ℕ → Entry
  entry_now s line challenge message = record { commitments = commitments_in width (row_at s line); challenge = challenge; message = message }

  -- what a call adds to the log
  abbrev pub added : (call : Call) (s t : ExchangeState) (e : Event) → Way relation scheme call s t e → List Entry
  added call s t e (refuses refusal r) = []
  added call s t e (opening l message within r) = []
  added call s t e (throwing l challenge within o) = []
  added call s t e (yes l challenge message within o f c b) = entry_now s l challenge message ∷ []
  added call s t e (no l why within) = []
  added call s t e (clearing l within) = []

  pub log_after : (call : Call) (s t : ExchangeState) (e : Event) (w : Way relation scheme call s t e) → Sound s → log_in relation scheme t ≡ log_in relation scheme s ++ added call s t e w
  log_after call s t e (refuses refusal r) sound = sym (append-nil (log_in relation scheme s))
  log_after call s t e (opening l message within r) sound = sym (append-nil (log_in relation scheme s))
  log_after call s t e (throwing l challenge within o) sound = sym (append-nil (log_in relation scheme s))
  log_after call s t e (yes l challenge message within o f c b) sound =
      log_entry (with_line s l Free) (sound_line s sound l Free) (row_at s l) challenge message (room_from_log_full (with_line s l Free) message f) width
  log_after call s t e (no l why within) sound = sym (append-nil (log_in relation scheme s))
  log_after call s t e (clearing l within) sound = sym (append-nil (log_in relation scheme s))

  entry_told : (s : ExchangeState) (l : ℕ) (challenge : Challenge) (message : List ℕ) (h : History) → line_at s l ≡ Challenged challenge → Holds relation scheme s l h
      → entry_now s l challenge message ∷ [] ≡ entry_of h message
  entry_told s l challenge message idle o k = impossible (cc)
  entry_told s l challenge message (opened c) o k = let a = k.0 in impossible (cc)
  entry_told s l challenge message (challenged c thrown) o k =
      let a : thrown ≡ challenge = cc in
      let b = k.1 in
      ap (λ e. e ∷ []) (λ i. record { commitments = b i; challenge = sym a i; message = message })

  -- what a call adds is what it told, by the histories of the lines
  pub told_after : (call : Call) (s t : ExchangeState) (e : Event) (w : Way relation scheme call s t e) (before : ℕ → History)
      → ((line : ℕ) → line < 4 → Holds relation scheme s line (before line)) → added call s t e w ≡ entry_by before e
  told_after call s t e (refuses refusal r) before holds = refl
  told_after call s t e (opening l message within r) before holds = refl
  told_after call s t e (throwing l challenge within o) before holds = refl
  told_after call s t e (yes l challenge message within o f c b) before holds = entry_told s l challenge message (before l) o (holds l within)
  told_after call s t e (no l why within) before holds = refl
  told_after call s t e (clearing l within) before holds = refl

  pub accepted_after : RelationLaws relation → SchemeLaws scheme → (call : Call) (s t : ExchangeState) (e : Event) (w : Way relation scheme call s t e) → Bytes call
      → AllByRecursion (λ entry. Proves relation scheme entry.commitments entry.challenge entry.message) (added call s t e w)
  accepted_after laws scheme_laws call s t e (refuses refusal r) low = tt
  accepted_after laws scheme_laws call s t e (opening l message within r) low = tt
  accepted_after laws scheme_laws call s t e (throwing l challenge within o) low = tt
  accepted_after laws scheme_laws call s t e (yes l challenge message within o f c b) low =
      ((decided relation scheme laws scheme_laws (commitments_in width (row_at s l)) challenge message (b low)).0 c, tt)
  accepted_after laws scheme_laws call s t e (no l why within) low = tt
  accepted_after laws scheme_laws call s t e (clearing l within) low = tt
