-- The theorem, at what the relation and the scheme mean.
use Rattle.moves.proofs.hiding.Goals as goal
use Rattle.moves.proofs.HidingMap.{hiding}

pub returns : goal.returns
returns g c = hiding (g.R.Relation.meaning c.args.relation.now) (g.R.Relation.laws c.args.relation.now) (g.S.Scheme.meaning c.args.scheme.now)
