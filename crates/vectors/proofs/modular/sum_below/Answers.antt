use Rattle.std.proofs.Common.{◌+◌, arith}
use Rattle.vectors.proofs.Sums.{mod_from_cases}
use Rattle.vectors.proofs.modular.sum_below.Goals as goal

pub returns : goal.returns
returns c = mod_from_cases c.args.q (c.args.x + c.args.y) c.reduced.result (omega arith) c.reduced.ensures.0 c.reduced.ensures.1
