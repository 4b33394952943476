-- The theorem that the contract names.
use Rattle.relation_laws.proofs.noise_is_lawful.Goals as goal
use Rattle.relation_laws.proofs.NoiseLaws.{noise_lawful}

pub returns : goal.returns
returns c = noise_lawful
