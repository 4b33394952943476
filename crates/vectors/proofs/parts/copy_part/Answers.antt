use Rattle.std.proofs.Common.{length, ap, ◌∙◌, arith}
use Rattle.vectors.specs.Over.{over}
use Rattle.vectors.proofs.Over.{over-part}
use Rattle.vectors.proofs.parts.copy_part.Goals as goal

pub returns : goal.returns
returns g c =
    let after = c.copy_from_slice.ensures.after in
    over-part c.args.at _ c.args.target.now _ (omega (arith, ap length after)) ∙ ap (over c.args.target.now c.args.at) after
