use Rattle.std.proofs.Common.{◌≡◌, ℕ, ◌<◌, get_or, pos}
use Rattle.relation_laws.specs.Short.{signed_digit}
use Rattle.short_statement.proofs.entries.write_digits.Given as goal

abbrev pub invariant-loop-i : goal.invariant-loop-i
invariant-loop-i l = (k : ℕ) → k < l.i → get_or l.out k 0 ≡ signed_digit l.q l.j (get_or l.key k (pos 0))
