use Rattle.std.proofs.Common.{length, arith}
use Rattle.short_statement.proofs.Places.{combined_from_sums}
use Rattle.short_statement.proofs.sums.combine.Goals as goal

pub returns : goal.returns
returns c =
    combined_from_sums c.args.q (length c.args.out.now) c.args.layer_count c.args.layers.now c.loop-i.out c.requires.0 c.loop-i.auto.out
    (λ k h. c.loop-i.invariant k (omega arith))
