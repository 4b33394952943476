use Rattle.std.proofs.Common.{◌≡◌, ◌*◌, length, take}
use Rattle.relation_laws.specs.Short.{digit_layers}
use Rattle.short_statement.proofs.layers.write_layers.Given as goal

abbrev pub invariant-loop-j : goal.invariant-loop-j
invariant-loop-j l = take (l.j * (3 * length l.key)) l.layers ≡ digit_layers l.q (length l.key) 0 l.j l.key
