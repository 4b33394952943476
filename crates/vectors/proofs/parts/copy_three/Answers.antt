use Rattle.std.proofs.Common.{◌+◌, ◌++◌, length, refl, ap, ◌∙◌, append_assoc, arith}
use Rattle.std.proofs.lemmas.List.{length-append}
use Rattle.vectors.specs.Over.{over}
use Rattle.vectors.proofs.Over.{over_behind}
use Rattle.vectors.proofs.parts.copy_three.Goals as goal

pub returns : goal.returns
returns g c =
    let a = c.args in
    let one = a.first.now in
    let two = a.second.now in
    let long = length-append one two in
    let both = over_behind a.target.now c.copy_part.new.target c.copy_part-2.new.target a.at (a.at + length one) one two c.copy_part.ensures refl (omega arith) c.copy_part-2.ensures in
    over_behind a.target.now c.copy_part-2.new.target c.copy_part-3.new.target a.at (a.at + length one + length two) (one ++ two) a.third.now both (omega arith) (omega arith) c.copy_part-3.ensures
    ∙ ap (over a.target.now a.at) (append_assoc one two a.third.now)
