use Rattle.std.proofs.Common.{length, take, arith}
use Rattle.masks.proofs.Sequences.{residues_more, residues_none}
use Rattle.masks.proofs.residues.draw_residues.Goals as goal

pub returns-in_err-residue : goal.returns-in_err-residue
returns-in_err-residue c =
    rw c.from_residual.ensures
    (residues_none c.args.q (length c.args.residues.now) c.loop-residue.residue-index (omega arith) c.loop-residue.source.left.now
    (take c.loop-residue.residue-index c.loop-residue.residues) _ c.in_err-residue.ensures.drawn c.loop-residue.invariant)

pub loop-residue-preserved : goal.loop-residue-preserved
loop-residue-preserved c =
    residues_more c.args.q (length c.args.residues.now) c.loop-residue.residue-index (omega arith) c.loop-residue.source.left.now c.in_ok-residue.field-0
    c.loop-residue.residues c.number_below.new.self.left.now _ c.loop-residue.auto.residues c.in_ok-residue.ensures.drawn c.loop-residue.invariant
