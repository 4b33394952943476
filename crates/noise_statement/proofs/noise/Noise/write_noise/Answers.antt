use Rattle.std.proofs.Common.{arith, rules}
use Rattle.relation_laws.specs.Noise.{noise_free}
use Rattle.relation_laws.proofs.Products.{product_residues}
use Rattle.statements.specs.Given.{statement}
use Rattle.noise_statement.proofs.Differences.{minus_modulo_two}
use Rattle.noise_statement.proofs.noise.Noise.write_noise.Goals as goal

pub returns : goal.returns
returns c =
    let given = c.args.self.now.checked.given in
    let key = c.args.key.now in
    search (
      rules,
      minus_modulo_two given.modulus given.target.now (noise_free (statement given) key) c.args.self.now.modulus
          (product_residues given.modulus given.columns given.rows given.matrix.now key (omega arith)).1,
    )
