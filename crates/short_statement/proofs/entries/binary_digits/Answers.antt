use Rattle.std.proofs.Common.{◌≡◌, ℕ, zero, suc, ◌≤◌, arith}
use Rattle.std.proofs.lemmas.Nat.{leading_length}
use Rattle.relation_laws.specs.Short.{digits}
use Rattle.relation_laws.proofs.Digits.{digits_range}
use Rattle.short_statement.proofs.Numbers.{digits_from_bounds}
use Rattle.short_statement.proofs.entries.binary_digits.Goals as goal

at_most_15 : (n : ℕ) → digits n ≤ 15
at_most_15 zero = omega arith
at_most_15 (suc n) = (digits_range (suc n) (omega arith)).1

pub returns : goal.returns
returns c =
    let n = c.args.number in
    let l = leading_length 64 n (omega arith) in
    let d : digits n ≡ l.0 = digits_from_bounds 15 n l.0 (omega arith) l.2 l.3 in
    (omega (arith, l.1, d), omega (arith, l.1, d, at_most_15 n))
