use Rattle.std.proofs.Common.{ap}
use Rattle.relation_laws.specs.Statements.{weight_fault}
use Rattle.statements.proofs.Making.{answers}
use Rattle.weight_statement.proofs.weight.Weight.smallest.Goals as goal

pub unwrap-requires : goal.unwrap-requires
unwrap-requires c = answers _ c.new.result _ _ c.new.ensures (ap weight_fault c.smallest.ensures)
