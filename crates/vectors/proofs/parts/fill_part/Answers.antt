use Rattle.std.proofs.Common.{◌≡◌, replicate, sym, ap, ◌∙◌, arith}
use Rattle.std.proofs.lemmas.List.{ext_get_or, get_or-replicate, length-replicate}
use Rattle.vectors.specs.Over.{over}
use Rattle.vectors.proofs.Over.{over-part}
use Rattle.vectors.proofs.parts.fill_part.Goals as goal

pub returns : goal.returns
returns g c =
    let n = length-replicate c.args.len c.args.value in
    let filled : c.loop-place.place-items ≡ replicate c.args.len c.args.value =
    ext_get_or c.args.value c.loop-place.place-items (replicate c.args.len c.args.value) (omega arith)
    (λ k h. c.loop-place.invariant k c.args.value (omega arith) ∙ sym (get_or-replicate c.args.len k c.args.value c.args.value (omega arith)))
    in
    over-part c.args.at _ c.args.target.now _ (omega arith) ∙ ap (over c.args.target.now c.args.at) filled
