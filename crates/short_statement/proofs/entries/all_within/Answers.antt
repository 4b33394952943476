use Rattle.std.proofs.Common.{nat_le, pos, refl, rules}
use Rattle.std.proofs.lemmas.Bool.{le-leb}
use Rattle.std.proofs.lemmas.Int.{to_z-of_z}
use Rattle.std.proofs.lemmas.List.Recursion.{and_is}
use Rattle.relation_laws.specs.Short.{size, sizes_within}
use Rattle.short_statement.proofs.Numbers.{size_is}
use Rattle.short_statement.proofs.entries.all_within.Goals as goal

pub returns : goal.returns
returns c =
    let most = c.args.most in
    and_is (sizes_within most) (λ x. nat_le (size x) most) refl (λ _ _. refl) c.args.key.now (pos 0) c.all.result
    (λ e i l. rw size_is (le-leb _ most (search (rules, to_z-of_z))))
    (λ e. search (rules, size_is, to_z-of_z))
