-- The theorem that the contract names.
use Rattle.relation_laws.proofs.short_is_lawful.Goals as goal
use Rattle.relation_laws.proofs.ShortLaws.{short_lawful}

pub returns : goal.returns
returns c = short_lawful
