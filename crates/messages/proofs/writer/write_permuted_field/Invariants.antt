use Rattle.std.proofs.Common.{◌≡◌, ◌+◌, ◌*◌, take}
use Rattle.vectors.specs.Layers.{permuted_layers}
use Rattle.vectors.specs.Over.{over}
use Rattle.vectors.specs.Words.{bytes}
use Rattle.messages.proofs.writer.write_permuted_field.Given as goal

abbrev pub invariant-loop-j : goal.invariant-loop-j
invariant-loop-j l = l.out ≡ over l.initial.out (l.at + 3) (bytes (take (l.j * l.layout.layer_len) (permuted_layers l.layout.layer_len l.layout.layer_count l.positions l.layers)))
