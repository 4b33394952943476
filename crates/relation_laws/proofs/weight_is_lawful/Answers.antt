-- The theorem that the contract names.
use Rattle.relation_laws.proofs.weight_is_lawful.Goals as goal
use Rattle.relation_laws.proofs.WeightLaws.{weight_lawful}

pub returns : goal.returns
returns c = weight_lawful
