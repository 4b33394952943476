use Rattle.std.proofs.Common.{◌≡◌, ap, ◌∙◌, arith, rules}
use Rattle.vectors.specs.Lists.{same}
use Rattle.vectors.specs.Residues.{minus}
use Rattle.vectors.proofs.Residues.{all_from_below}
use Rattle.relation_laws.specs.Products.{product}
use Rattle.relation_laws.specs.Noise.{noise_free}
use Rattle.relation_laws.proofs.Products.{product_residues}
use Rattle.statements.specs.Given.{statement}
use Rattle.noise_statement.proofs.Differences.{same_minus}
use Rattle.noise_statement.proofs.noise.Noise.image_is_target.Goals as goal

pub returns : goal.returns
returns c =
    let checked = c.args.self.now.checked in
    let given = checked.given in
    let free = c.args.free.now in
    let layer = c.args.layer.now in
    let difference : c.subtract.new.difference ≡ minus given.modulus given.target.now layer = search rules in
    c.multiplies_to.ensures
    ∙ ap (λ l. same (product given.modulus given.columns given.rows given.matrix.now free) l) difference
    ∙ same_minus given.modulus given.rows (noise_free (statement given) free) given.target.now layer
    (product_residues given.modulus given.columns given.rows given.matrix.now free (omega arith))
    (checked.lengths.1, all_from_below given.modulus given.target.now checked.residues) (c.requires.layer.0, all_from_below given.modulus layer c.requires.layer.1)
