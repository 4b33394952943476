-- The laws over every list of calls.
use Rattle.std.proofs.Common.{◌≡◌, ℕ, ◌+◌, ◌%◌, ◌<◌, Bool, true, false, cond, eqb, ltb, ◌≢◌, List, [], ◌∷◌, ◌++◌, None, Err, sym, refl, ap, ◌∙◌, subst, not-suc-le-zero, mod-lt, arith}
use Rattle.std.specs.List.{AllByRecursion}
use Rattle.std.proofs.ByRecursion.{All-append}
use Rattle.std.proofs.lemmas.List.{append-nil, append_assoc, get_or-replicate}
use Rattle.std.proofs.lemmas.Bool.{cond_both, eqb-true}
use Rattle.std.proofs.lemmas.Bool.Decides.{nat_tests}
use Rattle.refusals.specs.declared.refusal.Refusal.TheVariants.{NoSuchExchangeLine, SchemeLimit}
use Rattle.relation.specs.Meaning.{RelationMeaning}
use Rattle.relation.specs.Laws.{RelationLaws}
use Rattle.commitment.specs.Meaning.{SchemeMeaning, SchemeLaws}
use Rattle.messages.specs.declared.challenge.Challenge.{Challenge}
use Rattle.messages.specs.declared.challenge.Challenge.TheVariants.{One, Two, Three}
use Rattle.messages.specs.Contents.{challenge_number}
use Rattle.moves.specs.Sizes.{limit_fault}
use Rattle.exchange_moves.specs.Verdicts.{Proves}
use Rattle.exchange_steps.specs.declared.lines.LineState.{LineState}
use Rattle.exchange_steps.specs.declared.lines.LineState.TheVariants.{Free, Opened, Challenged}
use Rattle.exchange_steps.specs.declared.log.Record.{Record}
use Rattle.exchange_steps.specs.State.{ExchangeState, Entry, line_at, new_exchange}
use Rattle.exchange_steps.specs.Steps.{thrown, dice_at}
use Rattle.exchange_steps.specs.Runs.{Call, Event, Bytes, refused, throws, done, History, idle, after, event, run, events, next, history, entry_by, given}
use Rattle.exchange_steps.specs.Laws.{Holds, log_in, ExchangeLaws}
use Rattle.exchange_steps.proofs.Ways.{impossible, Way, refuses, opening, throwing, yes, no, clearing, way}
use Rattle.exchange_steps.proofs.Invariant.{Sound, sound_after, holds_after, added, log_after, told_after, accepted_after}

sound_new : (records : List Record) (bytes : List ℕ) → Sound (new_exchange records bytes)
sound_new records bytes =
    record { lines_there = refl; rows_there = refl; entries_there = omega arith; used_there = omega arith; recorded = λ i l. absurd (not-suc-le-zero l) }

holds_new : (records : List Record) (bytes : List ℕ) (line : ℕ) → line < 4 → line_at (new_exchange records bytes) line ≡ Free
holds_new records bytes line l = get_or-replicate 4 line Free Free l

thrown-number : (byte : ℕ) → challenge_number (thrown byte) ≡ byte % 3 + 1
thrown-number byte =
    let n : ℕ = byte % 3 + 1 in
    let low = mod-lt byte {m = 3} (omega arith) in
    cond_both (eqb n 1) One (cond (eqb n 2) Two Three) (λ c. challenge_number c ≡ n) (λ e. sym (eqb-true n 1 e))
    (λ d. cond_both (eqb n 2) Two Three (λ c. challenge_number c ≡ n) (λ e. sym (eqb-true n 2 e)) (λ e. grind (arith, nat_tests)))

thrown_on_line : (far used_up : Bool) (state : LineState) (s : ExchangeState) (line byte : ℕ) (challenge : Challenge) → eqb byte 255 ≡ used_up
    → done (throws line) (cond far (Err NoSuchExchangeLine, s) (dice_at state s line byte)).0 ≡ throws line challenge → thrown byte ≡ challenge
thrown_on_line true used_up state s line byte challenge u e = impossible (cc)
thrown_on_line false used_up Free s line byte challenge u e = impossible (cc)
thrown_on_line false used_up (Challenged earlier) s line byte challenge u e = impossible (cc)
thrown_on_line false true Opened s line byte challenge u e = let t = rw u at e in impossible (cc)
thrown_on_line false false Opened s line byte challenge u e = let t = rw u at e in cc

module _ {E : Type 0} (relation : RelationMeaning E) (scheme : SchemeMeaning) where
  abbrev moved : ExchangeState → Call → ExchangeState
  moved s call = after relation scheme s call

  run-append : (s : ExchangeState) (calls more : List Call) → run relation scheme s (calls ++ more) ≡ run relation scheme (run relation scheme s calls) more
  run-append s [] more = refl
  run-append s (call ∷ calls) more = run-append (moved s call) calls more

  sound_step : (s : ExchangeState) (call : Call) → Sound s → Sound (moved s call)
  sound_step s call sound = sound_after relation scheme call s (moved s call) (event relation scheme s call) (way relation scheme s call) sound

  holds_step : (s : ExchangeState) (call : Call) → Sound s → (line : ℕ) (h : History) → Holds relation scheme s line h
      → Holds relation scheme (moved s call) line (next line h (event relation scheme s call))
  holds_step s call sound line h k = holds_after relation scheme call s (moved s call) (event relation scheme s call) (way relation scheme s call) sound line h k

  sound-run : (s : ExchangeState) (calls : List Call) → Sound s → Sound (run relation scheme s calls)
  sound-run s [] sound = sound
  sound-run s (call ∷ calls) sound = sound-run (moved s call) calls (sound_step s call sound)

  holds_run : (s : ExchangeState) (calls : List Call) → Sound s → (line : ℕ) (h : History) → Holds relation scheme s line h
      → Holds relation scheme (run relation scheme s calls) line (history line h (events relation scheme s calls))
  holds_run s [] sound line h k = k
  holds_run s (call ∷ calls) sound line h k =
      holds_run (moved s call) calls (sound_step s call sound) line (next line h (event relation scheme s call)) (holds_step s call sound line h k)

  -- the log grows by what is told
  log_run : (s : ExchangeState) (calls : List Call) → Sound s → (before : ℕ → History) → ((line : ℕ) → line < 4 → Holds relation scheme s line (before line))
      → log_in relation scheme (run relation scheme s calls) ≡ log_in relation scheme s ++ given before (events relation scheme s calls)
  log_run s [] sound before holds = sym (append-nil (log_in relation scheme s))
  log_run s (call ∷ calls) sound before holds =
      let e : Event = event relation scheme s call in
      let rest : List Entry = given (λ line. next line (before line) e) (events relation scheme (moved s call) calls) in
      let w = way relation scheme s call in
      log_run (moved s call) calls (sound_step s call sound) (λ line. next line (before line) e) (λ line l. holds_step s call sound line (before line) (holds line l))
      ∙ ap (λ log. log ++ rest) (log_after relation scheme call s (moved s call) e w sound ∙ ap (λ new. log_in relation scheme s ++ new) (told_after relation scheme call s (moved s call) e w before holds))
      ∙ append_assoc (log_in relation scheme s) (entry_by before e) rest

  abbrev Accepted : Entry → Type 0
  Accepted e = Proves relation scheme e.commitments e.challenge e.message

  accepted_run : RelationLaws relation → SchemeLaws scheme → (s : ExchangeState) (calls : List Call) → Sound s → AllByRecursion Bytes calls → AllByRecursion Accepted (log_in relation scheme s)
      → AllByRecursion Accepted (log_in relation scheme (run relation scheme s calls))
  accepted_run laws scheme_laws s [] sound low all = all
  accepted_run laws scheme_laws s (call ∷ calls) sound low all =
      let e : Event = event relation scheme s call in
      let w = way relation scheme s call in
      accepted_run laws scheme_laws (moved s call) calls (sound_step s call sound) low.1
      (subst (AllByRecursion Accepted) (sym (log_after relation scheme call s (moved s call) e w sound))
      (All-append Accepted (log_in relation scheme s) (added relation scheme call s (moved s call) e w) all (accepted_after relation scheme laws scheme_laws call s (moved s call) e w low.0)))

  limit_after : (call : Call) (s t : ExchangeState) (e : Event) → Way relation scheme call s t e → limit_fault relation scheme ≡ None → e ≢ refused SchemeLimit
  limit_after call s t e (refuses refusal r) h d = r h (cc)
  limit_after call s t e (opening l message within r) h d = impossible (cc)
  limit_after call s t e (throwing l challenge within o) h d = impossible (cc)
  limit_after call s t e (yes l challenge message within o f c b) h d = impossible (cc)
  limit_after call s t e (no l why within) h d = impossible (cc)
  limit_after call s t e (clearing l within) h d = impossible (cc)

  limit-run : (s : ExchangeState) (calls : List Call) → limit_fault relation scheme ≡ None → AllByRecursion (λ e. e ≢ refused SchemeLimit) (events relation scheme s calls)
  limit-run s [] h = tt
  limit-run s (call ∷ calls) h =
      (limit_after call s (moved s call) (event relation scheme s call) (way relation scheme s call) h, limit-run (moved s call) calls h)

  lines_hold : (records : List Record) (bytes : List ℕ) (calls : List Call) (line : ℕ) → line < 4
      → Holds relation scheme (run relation scheme (new_exchange records bytes) calls) line (history line idle (events relation scheme (new_exchange records bytes) calls))
  lines_hold records bytes calls line l = holds_run (new_exchange records bytes) calls (sound_new records bytes) line idle (holds_new records bytes line l)

  log_kept : (records : List Record) (bytes : List ℕ) (calls more : List Call)
      → (added : List Entry) × (log_in relation scheme (run relation scheme (new_exchange records bytes) (calls ++ more)) ≡ log_in relation scheme (run relation scheme (new_exchange records bytes) calls) ++ added)
  log_kept records bytes calls more =
      let new : ExchangeState = new_exchange records bytes in
      let s : ExchangeState = run relation scheme new calls in
      let before : ℕ → History = λ line. history line idle (events relation scheme new calls) in (
        given before (events relation scheme s more),
        ap (log_in relation scheme) (run-append new calls more) ∙ log_run s more (sound-run new calls (sound_new records bytes)) before (lines_hold records bytes calls),
      )

  pub exchange_laws : RelationLaws relation → SchemeLaws scheme → ExchangeLaws relation scheme
  exchange_laws laws scheme_laws = record {
    lines_hold = lines_hold;
    log_given = λ records bytes calls. log_run (new_exchange records bytes) calls (sound_new records bytes) (λ _. idle) (holds_new records bytes);
    log_accepted = λ records bytes calls low. accepted_run laws scheme_laws (new_exchange records bytes) calls (sound_new records bytes) low tt;
    log_kept = log_kept;
    dice_number = λ s line byte challenge e. ap challenge_number (sym (thrown_on_line (ltb 3 line) (eqb byte 255) (line_at s line) s line byte challenge refl e)) ∙ thrown-number byte;
    limit_never = λ records bytes calls h. limit-run (new_exchange records bytes) calls h;
  }
