use Rattle.std.proofs.Common.{ap}
use Rattle.relation_laws.specs.Statements.{short_fault}
use Rattle.statements.proofs.Making.{answers}
use Rattle.short_statement.proofs.short.Short.smallest.Goals as goal

pub unwrap-requires : goal.unwrap-requires
unwrap-requires c = answers _ c.new.result _ _ c.new.ensures (ap short_fault c.smallest.ensures)
