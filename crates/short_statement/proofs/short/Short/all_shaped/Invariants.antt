use Rattle.std.proofs.Common.{◌≡◌, true}
use Rattle.relation.specs.Meaning.{shapes}
use Rattle.relation_laws.specs.Short.{short}
use Rattle.statements.specs.Given.{statement}
use Rattle.short_statement.proofs.short.Short.all_shaped.Given as goal

abbrev pub invariant-loop-j : goal.invariant-loop-j
invariant-loop-j l = shapes (short (statement l.self.checked.given)) l.j l.layers ≡ true
