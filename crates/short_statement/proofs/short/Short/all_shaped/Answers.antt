use Rattle.std.proofs.Common.{◌≡◌, ◌*◌, ◌<◌, true, false, sym, ap, ◌∙◌, subst, arith}
use Rattle.vectors.specs.Layers.{layer}
use Rattle.vectors.proofs.Layers.{row_layer}
use Rattle.relation.specs.Meaning.{shapes}
use Rattle.relation_laws.specs.Short.{short, digits, thirds}
use Rattle.statements.specs.Given.{statement}
use Rattle.statements.proofs.Calls.{shapes_more, shapes_unshaped}
use Rattle.short_statement.proofs.short.Short.all_shaped.Goals as goal

pub returns-then-not-has_thirds : goal.returns-then-not-has_thirds
returns-then-not-has_thirds c =
    let given = c.args.self.now.checked.given in
    let zs = c.args.layers.now in
    let j = c.loop-j.j in
    let n : c.binary_digits-j-end.result ≡ digits given.bound = c.binary_digits-j-end.ensures.0 ∙ ap digits c.bound.ensures in
    let r = row_layer (3 * given.columns) j zs in
    let shape : thirds given.modulus given.columns (layer (3 * given.columns) j zs) ≡ false = cc in
    sym (shapes_unshaped (short (statement given)) zs (digits given.bound) j (subst (λ k. j < k) n c.loop-j-test.true) shape)

pub loop-j-preserved : goal.loop-j-preserved
loop-j-preserved c =
    let given = c.args.self.now.checked.given in
    let zs = c.args.layers.now in
    let j = c.loop-j.j in
    let r = row_layer (3 * given.columns) j zs in
    let shape : thirds given.modulus given.columns (layer (3 * given.columns) j zs) ≡ true = cc in
    shapes_more (short (statement given)) zs j c.loop-j.invariant shape

pub returns : goal.returns
returns c =
    let given = c.args.self.now.checked.given in
    let n : c.loop-j.j ≡ c.binary_digits-j-end.result = omega arith in
    let e : c.loop-j.j ≡ digits given.bound = n ∙ c.binary_digits-j-end.ensures.0 ∙ ap digits c.bound.ensures in
    sym (subst (λ k. shapes (short (statement given)) k c.args.layers.now ≡ true) e c.loop-j.invariant)
