use Rattle.std.proofs.Common.{sym, ◌∙◌, arith, rules}
use Rattle.std.proofs.lemmas.List.{ext_get_or}
use Rattle.vectors.specs.Residues.{plus}
use Rattle.vectors.proofs.Residues.{get_or-below}
use Rattle.vectors.proofs.Sums.{length-plus, get_or-plus}
use Rattle.vectors.proofs.modular.add.Goals as goal

pub sum_below-requires : goal.sum_below-requires
sum_below-requires c =
    let x = get_or-below c.args.q c.args.sum.now c.loop-i.i (omega arith) c.requires.1.0 in
    let y = get_or-below c.args.q c.args.other.now c.loop-i.i (omega arith) c.requires.1.1 in
    search rules

pub returns : goal.returns
returns c =
    let n = length-plus c.args.q c.args.sum.now c.args.other.now c.requires.0 in
    ext_get_or 0 c.loop-i.sum (plus c.args.q c.args.sum.now c.args.other.now) (omega arith)
    (λ k h. c.loop-i.invariant.0 k (omega arith) ∙ sym (get_or-plus c.args.q c.args.sum.now c.args.other.now k c.requires.0))
