use Rattle.std.proofs.Common.{◌-◌, sym, ap, ◌∙◌, arith}
use Rattle.masks.specs.Draw.{draw_permutation}
use Rattle.masks.proofs.Sequences.{exchanges_more, exchanges_none}
use Rattle.masks.proofs.permutations.draw_permutation.Goals as goal

pub loop-i-preserved : goal.loop-i-preserved
loop-i-preserved c =
    exchanges_more (c.loop-i.i - 1) (omega arith) c.loop-i.positions c.loop-i.source.left.now c.exchange_with.new.positions c.exchange_with.new.source.left.now
    c.in_ok-exchange_with.ensures ∙ c.loop-i.invariant

pub returns-in_err-exchange_with : goal.returns-in_err-exchange_with
returns-in_err-exchange_with c =
    rw c.from_residual.ensures
    (ap (λ n. draw_permutation n c.args.source.now.left.now) (sym c.count_up.auto.positions)
    ∙ sym c.loop-i.invariant
    ∙ exchanges_none (c.loop-i.i - 1) (omega arith) c.loop-i.positions c.loop-i.source.left.now c.in_err-exchange_with.ensures)
