-- The ways that a call can go: what it leaves and what it tells.
use Rattle.std.proofs.Common.{◌≡◌, ℕ, ◌<◌, Bool, true, false, cond, eqb, ltb, ◌≢◌, List, ◌++◌, Some, None, Ok, Err, Option, Result, refl, arith}
use Rattle.std.specs.List.{AllByRecursion}
use Rattle.std.proofs.lemmas.Bool.{ltb-false}
use Rattle.refusals.specs.declared.fault.Fault.{Fault}
use Rattle.refusals.specs.declared.cause.Cause.{Cause}
use Rattle.refusals.specs.declared.refusal.Refusal.{Refusal}
use Rattle.refusals.specs.declared.refusal.Refusal.TheVariants.{RoomShort, NoSuchExchangeLine, ExchangeLineInUse, LineNotOpened, DiceByte, LineNotChallenged, LogFull, LineAlreadyFree, SchemeLimit, Unreadable}
use Rattle.relation.specs.Meaning.{RelationMeaning}
use Rattle.commitment.specs.Meaning.{SchemeMeaning}
use Rattle.messages.specs.declared.challenge.Challenge.{Challenge}
use Rattle.messages.specs.Reading.{reading_fault}
use Rattle.messages.specs.Contents.{commitment_slots}
use Rattle.moves.specs.Causes.{cause}
use Rattle.moves.specs.Sizes.{work_size, committed_size, limit_fault}
use Rattle.exchange_steps.specs.declared.lines.LineState.{LineState}
use Rattle.exchange_steps.specs.declared.lines.LineState.TheVariants.{Free, Opened, Challenged}
use Rattle.exchange_steps.specs.State.{ExchangeState, line_at, row_at, commitments_in, with_line, with_row, with_entry}
use Rattle.exchange_steps.specs.Steps.{on_line, read_triple, open_by, open_at, thrown, dice_at, clear_at, log_full, judged, judge_challenged, judge_at}
use Rattle.exchange_steps.specs.Runs.{Call, open_line, dice, judge, clear, Event, refused, opens, throws, says_yes, says_no, clears, done, verdict, after, event, Bytes}

pub impossible : {P : Type 0} → ◌≡◌ {A = ℕ} 0 1 → P
impossible e = absurd (omega arith)

module _ {E : Type 0} (relation : RelationMeaning E) (scheme : SchemeMeaning) where
  pub data Way (call : Call) (s : ExchangeState) : ExchangeState → Event → Type 0 where
    refuses : (refusal : Refusal) → (limit_fault relation scheme ≡ None → refusal ≢ SchemeLimit) → Way call s s (refused refusal)
    opening : (line : ℕ) (message : List ℕ) → line < 4 → reading_fault (commitment_slots scheme.width) 0 message ≡ None
        → Way call s
        (with_row s line Opened ((read_triple scheme.width message).one ++ ((read_triple scheme.width message).two ++ (read_triple scheme.width message).three)))
        (opens line (read_triple scheme.width message))
    throwing : (line : ℕ) (challenge : Challenge) → line < 4 → line_at s line ≡ Opened → Way call s (with_line s line (Challenged challenge)) (throws line challenge)
    yes : (line : ℕ) (challenge : Challenge) (message : List ℕ) → line < 4 → line_at s line ≡ Challenged challenge → log_full s message ≡ false
        → cause relation scheme (commitments_in scheme.width (row_at s line)) challenge message ≡ None → (Bytes call → AllByRecursion (λ b. b < 256) message)
        → Way call s (with_entry (with_line s line Free) (row_at s line) challenge message) (says_yes line message)
    no : (line : ℕ) (why : Cause) → line < 4 → Way call s (with_line s line Free) (says_no line why)
    clearing : (line : ℕ) → line < 4 → Way call s (with_line s line Free) (clears line)

  module _ (call : Call) (s : ExchangeState) where
    abbrev Goes : {T : Type 0} → (T → Event) → Result T Refusal × ExchangeState → Type 0
    Goes tell step = Way call s step.1 (done tell step.0)

    by_cond : {T : Type 0} (tell : T → Event) (b : Bool) (p q : Result T Refusal × ExchangeState) → (b ≡ true → Goes tell p) → (b ≡ false → Goes tell q) → Goes tell (cond b p q)
    by_cond tell true p q h k = h refl
    by_cond tell false p q h k = k refl

    by_line : {T : Type 0} (tell : T → Event) (line : ℕ) (step : Result T Refusal × ExchangeState) → (line < 4 → Goes tell step) → Goes tell (on_line s line step)
    by_line tell line step h =
        by_cond tell (ltb 3 line) (Err NoSuchExchangeLine, s) step (λ _. refuses NoSuchExchangeLine (λ _ e. impossible (cc))) (λ e. h (omega (arith, ltb-false 3 line e)))

    open_by_way : (fault : Option Fault) (line : ℕ) (message : List ℕ) → line < 4 → reading_fault (commitment_slots scheme.width) 0 message ≡ fault
        → Goes (λ _. opens line (read_triple scheme.width message)) (open_by scheme.width fault s line message)
    open_by_way (Some fault) line message l e = refuses (Unreadable fault) (λ _ e. impossible (cc))
    open_by_way None line message l e = opening line message l e

    open_way : (state : LineState) (line : ℕ) (message : List ℕ) → line < 4 → Goes (λ _. opens line (read_triple scheme.width message)) (open_at scheme.width state s line message)
    open_way Free line message l = open_by_way (reading_fault (commitment_slots scheme.width) 0 message) line message l refl
    open_way Opened line message l = refuses ExchangeLineInUse (λ _ e. impossible (cc))
    open_way (Challenged challenge) line message l = refuses ExchangeLineInUse (λ _ e. impossible (cc))

    dice_way : (state : LineState) (line byte : ℕ) → line < 4 → line_at s line ≡ state → Goes (throws line) (dice_at state s line byte)
    dice_way Free line byte l e = refuses LineNotOpened (λ _ e. impossible (cc))
    dice_way Opened line byte l e =
        by_cond (throws line) (eqb byte 255) (Err DiceByte, s) (Ok (thrown byte), with_line s line (Challenged (thrown byte)))
        (λ _. refuses DiceByte (λ _ e. impossible (cc))) (λ _. throwing line (thrown byte) l e)
    dice_way (Challenged challenge) line byte l e = refuses LineNotOpened (λ _ e. impossible (cc))

    clear_way : (state : LineState) (line : ℕ) → line < 4 → Goes (λ _. clears line) (clear_at state s line)
    clear_way Free line l = refuses LineAlreadyFree (λ _ e. impossible (cc))
    clear_way Opened line l = clearing line l
    clear_way (Challenged challenge) line l = clearing line l

    judged_way : (why : Option Cause) (line : ℕ) (challenge : Challenge) (message : List ℕ) → line < 4 → line_at s line ≡ Challenged challenge → log_full s message ≡ false
        → cause relation scheme (commitments_in scheme.width (row_at s line)) challenge message ≡ why → (Bytes call → AllByRecursion (λ b. b < 256) message)
        → Goes (verdict line message) (judged relation scheme why s line challenge message)
    judged_way None line challenge message l e f c b = yes line challenge message l e f c b
    judged_way (Some why) line challenge message l e f c b = no line why l

    within-limit : (b : Bool) → cond {A = Option ℕ} b (Some 56) None ≡ None → b ≡ true → SchemeLimit ≢ SchemeLimit
    within-limit true h e = impossible (cc)
    within-limit false h e = impossible (cc)

    judge_challenged_way : (line : ℕ) (challenge : Challenge) (message : List ℕ) (work : ℕ) → line < 4 → line_at s line ≡ Challenged challenge → (Bytes call → AllByRecursion (λ b. b < 256) message)
        → Goes (verdict line message) (judge_challenged relation scheme s line challenge message work)
    judge_challenged_way line challenge message work l e b =
        let why : Option Cause = cause relation scheme (commitments_in scheme.width (row_at s line)) challenge message in
        let says : Result (Option Cause) Refusal × ExchangeState = judged relation scheme why s line challenge message in
        let roomy : Result (Option Cause) Refusal × ExchangeState = cond (ltb work (work_size relation)) (Err RoomShort, s) says in
        let taken : Result (Option Cause) Refusal × ExchangeState = cond (ltb scheme.limit (committed_size relation)) (Err SchemeLimit, s) roomy in
        by_cond (verdict line message) (log_full s message) (Err LogFull, s) taken (λ _. refuses LogFull (λ _ e. impossible (cc)))
        (λ f. by_cond (verdict line message) (ltb scheme.limit (committed_size relation)) (Err SchemeLimit, s) roomy
        (λ t. refuses SchemeLimit (λ h. within-limit (ltb scheme.limit (committed_size relation)) h t))
        (λ _. by_cond (verdict line message) (ltb work (work_size relation)) (Err RoomShort, s) says (λ _. refuses RoomShort (λ _ e. impossible (cc)))
        (λ _. judged_way why line challenge message l e f refl b)))

    judge_way : (state : LineState) (line : ℕ) (message : List ℕ) (work : ℕ) → line < 4 → line_at s line ≡ state → (Bytes call → AllByRecursion (λ b. b < 256) message)
        → Goes (verdict line message) (judge_at relation scheme state s line message work)
    judge_way Free line message work l e b = refuses LineNotChallenged (λ _ e. impossible (cc))
    judge_way Opened line message work l e b = refuses LineNotChallenged (λ _ e. impossible (cc))
    judge_way (Challenged challenge) line message work l e b = judge_challenged_way line challenge message work l e b

  pub way : (s : ExchangeState) (call : Call) → Way call s (after relation scheme s call) (event relation scheme s call)
  way s (open_line line message) =
      by_line (open_line line message) s (λ _. opens line (read_triple scheme.width message)) line (open_at scheme.width (line_at s line) s line message)
      (λ l. open_way (open_line line message) s (line_at s line) line message l)
  way s (dice line byte) =
      by_line (dice line byte) s (throws line) line (dice_at (line_at s line) s line byte) (λ l. dice_way (dice line byte) s (line_at s line) line byte l refl)
  way s (judge line message work) =
      by_line (judge line message work) s (verdict line message) line (judge_at relation scheme (line_at s line) s line message work)
      (λ l. judge_way (judge line message work) s (line_at s line) line message work l refl (λ b. b))
  way s (clear line) = by_line (clear line) s (λ _. clears line) line (clear_at (line_at s line) s line) (λ l. clear_way (clear line) s (line_at s line) line l)
