use Rattle.std.proofs.Common.{refl}
use Rattle.sha256.specs.Block.{constants, next, extended, schedule, round, compressed}
use Rattle.sha256.specs.Hash.{after_blocks, chained, padding, sha256}
use Rattle.sha256_examples.proofs.definition_at_abc.Goals as goal

pub returns : goal.returns
unfolding constants next extended schedule round compressed after_blocks chained padding sha256
returns c = refl
