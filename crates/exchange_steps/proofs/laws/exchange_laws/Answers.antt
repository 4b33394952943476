-- The laws, at what the relation and the scheme mean.
use Rattle.exchange_steps.proofs.laws.exchange_laws.Goals as goal
use Rattle.exchange_steps.proofs.Lasting.{exchange_laws}

pub returns : goal.returns
returns g c =
    exchange_laws (g.R.Relation.meaning c.args.relation.now) (g.S.Scheme.meaning c.args.scheme.now) (g.R.Relation.laws c.args.relation.now) (g.S.Scheme.laws c.args.scheme.now)
