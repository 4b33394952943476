use Rattle.std.proofs.Common.{rules}
use Rattle.vectors.proofs.Residues.{below_from_all}
use Rattle.exchange_moves.proofs.first.judge_first.Goals as goal

pub open_first-requires-clause-sum : goal.open_first-requires-clause-sum
open_first-requires-clause-sum g c = search (rules, below_from_all)

pub open_first-requires-clause-mask : goal.open_first-requires-clause-mask
open_first-requires-clause-mask g c = search (rules, below_from_all)
