use Rattle.std.proofs.Common.{ap}
use Rattle.relation_laws.specs.Statements.{noise_fault}
use Rattle.statements.proofs.Making.{answers}
use Rattle.noise_statement.proofs.noise.Noise.smallest.Goals as goal

pub unwrap-requires : goal.unwrap-requires
unwrap-requires c = answers _ c.new.result _ _ c.new.ensures (ap noise_fault c.smallest.ensures)
