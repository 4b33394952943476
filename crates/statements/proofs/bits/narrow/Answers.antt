use Rattle.std.proofs.Common.{arith, rules}
use Rattle.std.proofs.lemmas.List.{ext_get_or}
use Rattle.vectors.proofs.Residues.{get_or-below}
use Rattle.statements.proofs.bits.narrow.Goals as goal

pub returns : goal.returns
returns c = ext_get_or 0 c.loop-i.bytes c.args.numbers.now (omega arith) (λ k h. c.loop-i.invariant k (omega arith))

pub overflow_cast-bytes : goal.overflow_cast-bytes
overflow_cast-bytes c =
    let h = get_or-below 2 c.args.numbers.now c.loop-i.i (search rules) (search rules) in
    search rules
