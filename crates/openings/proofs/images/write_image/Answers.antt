use Rattle.std.proofs.Common.{rules}
use Rattle.vectors.proofs.Residues.{below_from_all}
use Rattle.openings.proofs.Never.{answers, image_none}
use Rattle.openings.proofs.images.write_image.Goals as goal

pub unwrap-requires : goal.unwrap-requires
unwrap-requires g c =
    answers _ c.image.result _ _ c.image.ensures (image_none (g.R.Relation.meaning c.args.relation.now) c.args.layers.now c.args.free.now _ c.requires.layers c.requires.free c.requires.out)

pub subtract_target-requires-clause-residues : goal.subtract_target-requires-clause-residues
subtract_target-requires-clause-residues g c =
    let made = (g.R.Relation.laws c.args.relation.now).image_residues c.args.layers.now c.args.free.now c.requires.layers c.requires.free in
    search (rules, below_from_all)
