use Rattle.std.proofs.Common.{◌≡◌, ◌≤◌, length, sym, ap, ◌∙◌, arith}
use Rattle.sha256.specs.Block.{slid}
use Rattle.sha256.proofs.Windows.{slid_none, slid-add}
use Rattle.sha256.proofs.schedule.follow.Goals as goal

pub loop-init : goal.loop-init
loop-init c = slid_none c.args.w.now

pub loop-preserved : goal.loop-preserved
loop-preserved c =
    let l : 16 ≤ length c.args.w.now = omega (arith, c.told-w) in
    c.slide.ensures ∙ ap (slid 1) c.loop.invariant ∙ sym (slid-add c.loop.counter 1 c.args.w.now l)

pub returns : goal.returns
returns c =
    let e : c.loop.counter ≡ 16 = omega arith in
    c.loop.invariant ∙ ap (λ n. slid n c.args.w.now) e
