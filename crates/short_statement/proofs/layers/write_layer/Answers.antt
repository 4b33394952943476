use Rattle.std.proofs.Common.{length, sym, ap, ◌∙◌, subst, rules}
use Rattle.std.proofs.lemmas.List.{length-map, take_at}
use Rattle.relation_laws.specs.Short.{signed_digit}
use Rattle.relation_laws.proofs.Counts.{Only}
use Rattle.relation_laws.proofs.Thirds.{units}
use Rattle.short_statement.proofs.Filling.{only_digits}
use Rattle.short_statement.proofs.layers.write_layer.Goals as goal

pub fill_up-requires : goal.fill_up-requires
fill_up-requires c =
    let long = ap length c.write_digits.ensures ∙ length-map c.args.key.now (signed_digit c.args.q c.args.j) in (
      search rules,
      (
        search rules,
        (
          search rules,
          subst (Only (units c.args.q)) (sym (take_at c.write_digits.new.out _ (length c.args.key.now) long ∙ c.write_digits.ensures)) (only_digits c.args.q c.args.j c.args.key.now),
        ),
      ),
    )
