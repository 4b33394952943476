use Rattle.std.proofs.Common.{◌+◌, ◌-◌, ◌*◌, length, ◌∙◌, arith, rules}
use Rattle.short_statement.proofs.Filling.{take-digit_layers_more}
use Rattle.short_statement.proofs.layers.write_layers.Goals as goal

pub loop-j-preserved : goal.loop-j-preserved
loop-j-preserved c =
    let m = length c.args.key.now in
    let N = 3 * m in
    let j = c.loop-j.j in
    take-digit_layers_more c.args.q m j c.args.layer_count N (j * N + N - j * N) c.args.key.now c.loop-j.layers c.write_layer.new.layer c.loop-j-test.true
    (c.loop-j.auto.layers ∙ c.requires.0) (search rules) (omega arith) c.loop-j.invariant c.write_layer.ensures
