use Rattle.std.proofs.Common.{sym, ◌∙◌, arith}
use Rattle.statements.proofs.Rows.{entry_row, same_from_entries, not_same_from_entry}
use Rattle.statements.proofs.products.product_is.Goals as goal

pub returns-then-dot-q : goal.returns-then-dot-q
returns-then-dot-q c =
    let e = entry_row c.args.q c.args.columns c.args.matrix.now c.args.vector.now c.loop-i.i c.dot.result c.dot.ensures in
    sym (not_same_from_entry c.args.q c.args.columns c.args.matrix.now c.args.vector.now c.args.target.now c.loop-i.i (omega arith)
    (λ d. c.if-dot-q.true (e ∙ d)))

pub returns : goal.returns
returns c =
    sym (same_from_entries c.args.q c.args.columns c.args.matrix.now c.args.vector.now c.args.target.now (λ k h. c.loop-i.invariant k (omega arith)))
