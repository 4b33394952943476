use Rattle.std.proofs.Common.{◌≡◌}
use Rattle.sha256.specs.Block.{slid}
use Rattle.sha256.proofs.schedule.follow.Given as goal

abbrev pub invariant-loop : goal.invariant-loop
invariant-loop l = l.w ≡ slid l.counter l.initial.w
