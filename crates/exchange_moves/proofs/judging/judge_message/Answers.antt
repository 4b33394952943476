use Rattle.std.proofs.Common.{sym, ◌∙◌, rules}
use Rattle.exchange_moves.specs.Verdicts.{lent}
use Rattle.exchange_moves.proofs.judging.judge_message.Goals as goal

pub returns-in_err-answer-clause-verdict : goal.returns-in_err-answer-clause-verdict
returns-in_err-answer-clause-verdict g c = let e = c.in_err-answer.ensures.1 (lent c.args.commitments) in search rules

pub returns-clause-verdict : goal.returns-clause-verdict
returns-clause-verdict g c = c.judge_answer.ensures.verdict ∙ sym (c.in_ok-answer.ensures.cause (lent c.args.commitments))
