use Rattle.std.proofs.Common.{◌≡◌, ◌*◌, ◌+◌, ℕ, sym, true, false, ◌∙◌, rules}
use Rattle.vectors.specs.Layers.{layer}
use Rattle.vectors.proofs.Failing.{first_failing_more, first_failing_here}
use Rattle.openings.proofs.Never.{answers}
use Rattle.answer_openings.proofs.Shaped.{part-layer, shape_none}
use Rattle.answer_openings.proofs.shapes.first_misshapen.Goals as goal

pub unwrap-requires : goal.unwrap-requires
unwrap-requires g c =
    let relation = g.R.Relation.meaning c.args.relation.now in
    let start : c.places-start.result.start ≡ c.loop-layer.layer * relation.layer_len = search rules in
    let end : c.places-start.result.end ≡ c.loop-layer.layer * relation.layer_len + relation.layer_len = search rules in
    answers _ c.shape.result _ _ c.shape.ensures (shape_none relation c.args.layers.now c.loop-layer.layer _ _ start end c.requires (search rules))

pub returns-then-not-unwrap : goal.returns-then-not-unwrap
returns-then-not-unwrap g c =
    let relation = g.R.Relation.meaning c.args.relation.now in
    let j : ℕ = c.loop-layer.layer in
    let start : c.places-start.result.start ≡ j * relation.layer_len = search rules in
    let end : c.places-start.result.end ≡ j * relation.layer_len + relation.layer_len = search rules in
    let part = part-layer relation c.args.layers.now j _ _ start end in
    let test : relation.shape j (layer relation.layer_len j c.args.layers.now) ≡ false = search (rules, part) in
    sym (first_failing_here relation.shape relation.layer_len c.args.layers.now j relation.layer_count (search rules) test) ∙ c.loop-layer.invariant

pub loop-layer-preserved : goal.loop-layer-preserved
loop-layer-preserved g c =
    let relation = g.R.Relation.meaning c.args.relation.now in
    let j : ℕ = c.loop-layer.layer in
    let start : c.places-start.result.start ≡ j * relation.layer_len = search rules in
    let end : c.places-start.result.end ≡ j * relation.layer_len + relation.layer_len = search rules in
    let part = part-layer relation c.args.layers.now j _ _ start end in
    let test : relation.shape j (layer relation.layer_len j c.args.layers.now) ≡ true = search (rules, part) in
    first_failing_more relation.shape relation.layer_len c.args.layers.now j relation.layer_count (search rules) test ∙ c.loop-layer.invariant
