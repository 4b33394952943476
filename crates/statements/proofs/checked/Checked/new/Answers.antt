use Rattle.std.proofs.Common.{sym, ◌∙◌, arith}
use Rattle.relation_laws.proofs.Made.{made, within_true}
use Rattle.statements.specs.Given.{statement}
use Rattle.statements.proofs.Making.{made_facts}
use Rattle.statements.proofs.checked.Checked.new.Goals as goal

pub invariant_of-result : goal.invariant_of-result
invariant_of-result c =
    let given = c.args.given in
    let none = c.in_ok-check.ensures.0 in
    let facts = made_facts given _ _ none in
    let holds = (made _ _ (statement given) none).q_holds in
    let top = within_true c.start.result.now c.end.result.now given.modulus (sym c.within-modulus_in.ensures ∙ holds) in
    record { dimensions = facts.dimensions; modulus = (facts.modulus, omega (arith, top.1)); lengths = facts.lengths; residues = facts.residues }
