use Rattle.std.proofs.Common.{length, get_or, sym, ◌∙◌, arith, rules}
use Rattle.std.proofs.lemmas.List.{length-map, get_or-map, ext_get_or}
use Rattle.vectors.specs.Permutations.{permuted}
use Rattle.vectors.proofs.Residues.{get_or-below}
use Rattle.vectors.proofs.permuting.permute.Goals as goal

pub loop-i-init : goal.loop-i-init
loop-i-init c = (λ k h. get_or-below (length c.args.values.now) c.args.positions.now k h c.requires.0, λ k h. search rules)

pub returns : goal.returns
returns c =
    let n = length-map c.args.positions.now (λ i. get_or c.args.values.now i 0) in
    ext_get_or 0 c.loop-i.out (permuted c.args.positions.now c.args.values.now) (omega arith)
    (λ k h. c.loop-i.invariant.1 k (omega arith) ∙ sym (get_or-map (λ i. get_or c.args.values.now i 0) c.args.positions.now k 0 0 (omega arith)))
