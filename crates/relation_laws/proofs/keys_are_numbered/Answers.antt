-- The theorem that the contract names.
use Rattle.relation_laws.proofs.WeightLaws.{weight_numbers}
use Rattle.relation_laws.proofs.ShortLaws.{short_numbers}
use Rattle.relation_laws.proofs.NoiseLaws.{noise_numbers}
use Rattle.relation_laws.proofs.keys_are_numbered.Goals as goal

pub returns : goal.returns
returns c = λ s. (weight_numbers s, short_numbers s, noise_numbers s)
