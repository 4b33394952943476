use Rattle.std.proofs.Common.{length, rules}
use Rattle.statements.proofs.Rows.{product-below}
use Rattle.statements.proofs.checked.Checked.multiply.Goals as goal

pub returns-clause-residues : goal.returns-clause-residues
returns-clause-residues c =
    let given = c.args.self.now.given in
    rw (c.multiply.ensures, c.modulus.ensures, c.columns.ensures) (product-below given.modulus given.columns (length c.args.out.now) given.matrix.now c.args.vector.now (search rules))
