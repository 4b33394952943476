-- The theorem, at what the relation and the scheme mean.
use Rattle.moves.proofs.decided.Goals as goal
use Rattle.moves.proofs.Deciding.{decided}

pub returns : goal.returns
returns g c =
    decided (g.R.Relation.meaning c.args.relation.now) (g.S.Scheme.meaning c.args.scheme.now) (g.R.Relation.laws c.args.relation.now) (g.S.Scheme.laws c.args.scheme.now)
