use Rattle.std.proofs.Common.{◌≡◌, length, refl, true, rules}
use Rattle.vectors.proofs.Residues.{below_from_all}
use Rattle.relation.specs.Faults.{whole}
use Rattle.relation_laws.specs.Weight.{weight}
use Rattle.relation_laws.proofs.Ones.{bits_from_ones}
use Rattle.statements.specs.Given.{statement}
use Rattle.statements.proofs.Calls.{gather_fault_only}
use Rattle.weight_statement.proofs.weight.WeightRelation.gather.Goals as goal

pub returns-then-not-has_ones : goal.returns-then-not-has_ones
returns-then-not-has_ones c =
    let w : whole (weight (statement c.args.self.now.checked.given)) c.args.layers.now c.args.free.now ≡ true = search rules in
    let e = gather_fault_only (weight (statement c.args.self.now.checked.given)) c.args.layers.now c.args.free.now (length c.args.key.now) (search rules) w refl in
    rw e (search rules)

pub narrow-requires : goal.narrow-requires
narrow-requires c =
    (search rules, below_from_all 2 c.args.layers.now (bits_from_ones c.args.self.now.checked.given.bound c.args.layers.now (search rules)))

pub returns : goal.returns
returns c =
    let w : whole (weight (statement c.args.self.now.checked.given)) c.args.layers.now c.args.free.now ≡ true = search rules in
    let e = gather_fault_only (weight (statement c.args.self.now.checked.given)) c.args.layers.now c.args.free.now (length c.args.key.now) (search rules) w refl in
    rw e (search rules)
