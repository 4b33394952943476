use Rattle.std.proofs.Common.{nat_abs, ap, ◌∙◌, ap₂, w32, rules}
use Rattle.std.specs.Int.{int_rem_euclid}
use Rattle.std.proofs.lemmas.Int.{to_z-of_z, to_z_pos}
use Rattle.short_statement.proofs.Numbers.{residue_rem_euclid}
use Rattle.short_statement.proofs.entries.residue.Goals as goal

pub returns : goal.returns
returns c =
    ap nat_abs (to_z-of_z w32 c.rem_euclid.result (search rules) ∙ c.rem_euclid.ensures.value ∙ ap₂ int_rem_euclid (to_z-of_z w32 c.args.entry c.ranges.entry) (to_z_pos w32 c.args.q (search rules)))
    ∙ residue_rem_euclid c.args.q c.args.entry c.requires
