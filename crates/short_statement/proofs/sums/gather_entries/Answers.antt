use Rattle.std.proofs.Common.{length, arith}
use Rattle.short_statement.proofs.Places.{gathered_from_sums}
use Rattle.short_statement.proofs.sums.gather_entries.Goals as goal

pub returns : goal.returns
returns c =
    gathered_from_sums c.args.q (length c.args.out.now) c.args.layer_count c.args.layers.now c.loop-i.out c.requires.0 c.loop-i.auto.out
    (λ k h. c.loop-i.invariant k (omega arith))
