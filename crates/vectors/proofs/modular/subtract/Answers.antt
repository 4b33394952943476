use Rattle.std.proofs.Common.{sym, ◌∙◌, arith, rules}
use Rattle.std.proofs.lemmas.List.{ext_get_or}
use Rattle.vectors.specs.Residues.{minus}
use Rattle.vectors.proofs.Residues.{get_or-below}
use Rattle.vectors.proofs.Sums.{length-minus, get_or-minus}
use Rattle.vectors.proofs.modular.subtract.Goals as goal

pub difference_below-requires : goal.difference_below-requires
difference_below-requires c =
    let x = get_or-below c.args.q c.args.difference.now c.loop-i.i (omega arith) c.requires.1.0 in
    let y = get_or-below c.args.q c.args.other.now c.loop-i.i (omega arith) c.requires.1.1 in
    search rules

pub returns : goal.returns
returns c =
    let n = length-minus c.args.q c.args.difference.now c.args.other.now c.requires.0 in
    ext_get_or 0 c.loop-i.difference (minus c.args.q c.args.difference.now c.args.other.now) (omega arith)
    (λ k h. c.loop-i.invariant.0 k (omega arith) ∙ sym (get_or-minus c.args.q c.args.difference.now c.args.other.now k c.requires.0 (omega arith)))
