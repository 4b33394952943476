use Rattle.exchange_moves.specs.Verdicts.{lent}
use Rattle.exchange_moves.proofs.Decided.{yes_to}
use Rattle.exchange_moves.proofs.judging.judge.Goals as goal

pub returns-clause-decides : goal.returns-clause-decides
returns-clause-decides g c =
    yes_to (g.R.Relation.meaning c.args.relation.now) (g.S.Scheme.meaning c.args.scheme.now) (g.R.Relation.laws c.args.relation.now) (g.S.Scheme.laws c.args.scheme.now) (lent c.args.commitments)
    c.args.challenge c.args.message.now _ c.judge_message.ensures.verdict
