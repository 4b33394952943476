use Rattle.std.proofs.Common.{◌+◌, ◌-◌, ◌*◌, get_or, sym, ap, ◌∙◌, arith}
use Rattle.short_statement.proofs.Places.{power_before, place_sum-before}
use Rattle.short_statement.proofs.sums.place_sum.Goals as goal

pub loop-j-preserved : goal.loop-j-preserved
loop-j-preserved c =
    let K = c.args.layer_count in
    let N = c.args.layer_len in
    let j = c.loop-j.j in
    let h = c.loop-j-test.true in
    let l = c.loop-j.auto.j in
    let x = get_or c.args.layers.now ((j - 1) * N + c.args.i) 0 in (
      ap (λ s. x + 2 * s) c.loop-j.invariant.0 ∙ sym (place_sum-before K N j c.args.i h l c.args.layers.now),
      omega (arith, power_before K N j c.args.i h l, c.loop-j.invariant.1),
    )
