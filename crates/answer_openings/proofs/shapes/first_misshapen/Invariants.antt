use Rattle.std.proofs.Common.{◌≡◌, ◌-◌}
use Rattle.vectors.specs.Layers.{first_failing}
use Rattle.answer_openings.proofs.shapes.first_misshapen.Given as goal

abbrev pub invariant-loop-layer : goal.invariant-loop-layer
invariant-loop-layer g l =
    first_failing (g.R.Relation.meaning l.relation).shape (g.R.Relation.meaning l.relation).layer_len l.layer ((g.R.Relation.meaning l.relation).layer_count - l.layer) l.layers
    ≡ first_failing (g.R.Relation.meaning l.relation).shape (g.R.Relation.meaning l.relation).layer_len 0 (g.R.Relation.meaning l.relation).layer_count l.layers
