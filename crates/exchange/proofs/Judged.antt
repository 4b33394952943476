-- The step of judge, where nothing is refused.
use Rattle.std.proofs.Common.{◌≡◌, ℕ, ◌-◌, ◌*◌, Bool, true, false, cond, ltb, List, take, drop, Some, None, Ok, Option, Result, IfOk, sym, ap, ◌∙◌, subst, arith}
use Rattle.std.specs.Result.{result_err}
use Rattle.std.proofs.lemmas.Bool.{le-ltb, cond-false}
use Rattle.std.proofs.lemmas.Result.{IfOk-at_ok}
use Rattle.refusals.specs.Answers.{Answered}
use Rattle.refusals.specs.declared.cause.Cause.{Cause}
use Rattle.refusals.specs.declared.refusal.Refusal.{Refusal}
use Rattle.relation.specs.Meaning.{RelationMeaning}
use Rattle.commitment.specs.Meaning.{SchemeMeaning}
use Rattle.messages.specs.declared.challenge.Challenge.{Challenge}
use Rattle.moves.specs.Moves.{Triple}
use Rattle.moves.specs.Causes.{cause}
use Rattle.moves.specs.Sizes.{committed_size, work_size}
use Rattle.exchange_moves.specs.Verdicts.{judge_fault, triple, Leaves, YesTo}
use Rattle.exchange_steps.specs.State.{ExchangeState, line_at, row_at, commitments_in}
use Rattle.exchange_steps.specs.Steps.{log_full, judged, judge_at, judge_step}
use Rattle.exchange.specs.Told.{IfChallenged, Ready, RowJudged}

-- the parts of a row as the checker reads them
pub row_parts : (width : ℕ) (row : List ℕ)
    → triple (take (width - 0) row) (take (2 * width - width) (drop width row)) (take (3 * width - 2 * width) (drop (2 * width) row)) ≡ commitments_in width row
row_parts width row =
    let none : width - 0 ≡ width = omega arith in
    let one : 2 * width - width ≡ width = omega arith in
    let two : 3 * width - 2 * width ≡ width = omega arith in
    let zero : 0 * width ≡ 0 = omega arith in
    let once : 1 * width ≡ width = omega arith in
    simp (none, one, two, zero, once)

no_fault : (test : Bool) (n : ℕ) → cond test (Some n) None ≡ None → test ≡ false
no_fault true n e = cc
no_fault false n e = cc

module _ {E : Type 0} (relation : RelationMeaning E) (scheme : SchemeMeaning) where
  -- what is judged against the parts of a row is judged against its commitments
  pub row_judged : {T : Type 0} (row : List ℕ) (parts : Triple) (challenge : Challenge) (message : List ℕ) (work : ℕ) (fresh same : Type 0) (result : Result (Result T Cause) Refusal) (verdict : Result T Cause) (why : Option Cause)
      → parts ≡ commitments_in scheme.width row → result ≡ Ok verdict → why ≡ result_err verdict
      → Answered (judge_fault relation scheme work) result (λ v. (result_err v ≡ cause relation scheme parts challenge message) × Leaves (result_err v) fresh same) same
      → IfOk result (λ v. YesTo relation scheme parts challenge message (result_err v))
      → RowJudged relation scheme row challenge message fresh same why
  row_judged row parts challenge message work fresh same result verdict why e ok is outcome decides =
      let told = (subst (λ r. Answered (judge_fault relation scheme work) r (λ v. (result_err v ≡ cause relation scheme parts challenge message) × Leaves (result_err v) fresh same) same) ok outcome).1 in
      record {
        computed = is ∙ told.0 ∙ ap (λ c. cause relation scheme c challenge message) e;
        decides = subst (λ w. YesTo relation scheme (commitments_in scheme.width row) challenge message w) (sym is)
            (subst (λ c. YesTo relation scheme c challenge message (result_err verdict)) e (IfOk-at_ok (λ v. YesTo relation scheme parts challenge message (result_err v)) ok decides));
        leaves = subst (λ w. Leaves w fresh same) (sym is) told.1;
      }

  -- what a verdict on a line that is ready comes to; `said` is the verdict as it is told
  pub record Outcome (s : ExchangeState) (line : ℕ) (message : List ℕ) (work : ℕ) (challenge : Challenge) (fresh same : Type 0) (said : Option Cause) : Type 0 where
    pub step : judge_step relation scheme s line message work ≡ judged relation scheme said s line challenge message
    pub decides : IfChallenged (line_at s line) (λ c. YesTo relation scheme (commitments_in scheme.width (row_at s line)) c message said)
    pub leaves : Leaves said fresh same

  pub outcome : (s : ExchangeState) (line : ℕ) (message : List ℕ) (work : ℕ) (challenge : Challenge) (fresh same : Type 0) (why said : Option Cause)
      → Ready relation scheme s line message work challenge → RowJudged relation scheme (row_at s line) challenge message fresh same why → why ≡ said
      → Outcome s line message work challenge fresh same said
  outcome s line message work challenge fresh same why said ready told e = record {
    step =
        cond-false (ltb 3 line) _ _ (le-ltb 3 line ready.low)
        ∙ ap (λ l. judge_at relation scheme l s line message work) ready.challenged
        ∙ cond-false (log_full s message) _ _ ready.room
        ∙ cond-false (ltb scheme.limit (committed_size relation)) _ _ (no_fault _ 56 ready.limit)
        ∙ cond-false (ltb work (work_size relation)) _ _ (no_fault _ 37 ready.area)
        ∙ ap (λ w. judged relation scheme w s line challenge message) (sym told.computed ∙ e);
    decides =
        let P : Challenge → Option Cause → Type 0 = λ c w. YesTo relation scheme (commitments_in scheme.width (row_at s line)) c message w in
        subst (λ l. IfChallenged l (λ c. P c said)) (sym ready.challenged) (subst (P challenge) e told.decides);
    leaves = subst (λ w. Leaves w fresh same) e told.leaves;
  }
