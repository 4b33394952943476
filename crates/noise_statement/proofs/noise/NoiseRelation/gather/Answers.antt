use Rattle.std.proofs.Common.{◌≡◌, length, refl, true, rules}
use Rattle.relation.specs.Faults.{whole}
use Rattle.relation_laws.specs.Noise.{noise}
use Rattle.statements.specs.Given.{statement}
use Rattle.statements.proofs.Calls.{gather_fault_only}
use Rattle.noise_statement.proofs.noise.NoiseRelation.gather.Goals as goal

pub returns-then-not-has_ones : goal.returns-then-not-has_ones
returns-then-not-has_ones c =
    let w : whole (noise (statement c.args.self.now.checked.given)) c.args.layers.now c.args.free.now ≡ true = search rules in
    let e = gather_fault_only (noise (statement c.args.self.now.checked.given)) c.args.layers.now c.args.free.now (length c.args.key.now) (search rules) w refl in
    rw e (search rules)

pub returns : goal.returns
returns c =
    let w : whole (noise (statement c.args.self.now.checked.given)) c.args.layers.now c.args.free.now ≡ true = search rules in
    let e = gather_fault_only (noise (statement c.args.self.now.checked.given)) c.args.layers.now c.args.free.now (length c.args.key.now) (search rules) w refl in
    rw e (search rules)
