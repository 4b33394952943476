use Rattle.std.proofs.Common.{rules}
use Rattle.vectors.proofs.Residues.{below_from_all}
use Rattle.openings.proofs.images.subtract_target.Goals as goal

pub subtract-requires : goal.subtract-requires
subtract-requires g c =
    let target = (g.R.Relation.laws c.args.relation.now).target_residues in
    search (rules, below_from_all)
