use Rattle.std.proofs.Common.{length, sym, arith}
use Rattle.vectors.proofs.Over.{over_none}
use Rattle.vectors.proofs.Residues.{get_or-below}
use Rattle.messages.proofs.Writing.{over-permuted_more}
use Rattle.messages.proofs.writer.write_permuted.Goals as goal

pub loop-i-init : goal.loop-i-init
loop-i-init c = sym (over_none c.args.out.now c.args.at)

pub write_value-requires : goal.write_value-requires
write_value-requires c = (omega arith, get_or-below (length c.args.values.now) c.args.positions.now c.loop-i.i c.loop-i-test.true c.requires.1)

pub loop-i-preserved : goal.loop-i-preserved
loop-i-preserved c =
    over-permuted_more c.args.positions.now c.args.values.now c.loop-i.i c.args.out.now c.loop-i.out c.write_value.new.out c.args.at c.loop-i-test.true c.requires.0
    c.loop-i.invariant c.write_value.ensures
