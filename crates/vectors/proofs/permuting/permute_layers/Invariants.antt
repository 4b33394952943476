use Rattle.std.proofs.Common.{◌≡◌, ◌*◌, take}
use Rattle.vectors.specs.Layers.{permuted_layers}
use Rattle.vectors.proofs.permuting.permute_layers.Given as goal

abbrev pub invariant-loop-j : goal.invariant-loop-j
invariant-loop-j l = take (l.j * l.layout.layer_len) l.out ≡ take (l.j * l.layout.layer_len) (permuted_layers l.layout.layer_len l.layout.layer_count l.positions l.layers)
