use Rattle.std.proofs.Common.{length, arith}
use Rattle.statements.proofs.Rows.{product_from_entries}
use Rattle.statements.proofs.products.multiply.Goals as goal

pub returns : goal.returns
returns c =
    product_from_entries c.args.q c.args.columns (length c.args.out.now) c.args.matrix.now c.args.vector.now c.loop-i.out c.loop-i.auto.out
    (λ k h. c.loop-i.invariant k (omega arith))
