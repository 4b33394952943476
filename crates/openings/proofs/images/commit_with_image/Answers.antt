use Rattle.std.proofs.Common.{◌≡◌, ℕ, length, arith, rules, length-append}
use Rattle.vectors.proofs.Words.{length_bytes}
use Rattle.openings.proofs.Never.{answers, commit_none}
use Rattle.openings.proofs.images.commit_with_image.Goals as goal

pub unwrap-requires : goal.unwrap-requires
unwrap-requires g c =
    let long : length c.write_image.new.out ≡ (g.R.Relation.meaning c.args.relation.now).image_len = search rules in
    answers _ c.commit.result _ _ c.commit.ensures.outcome
    (commit_none (g.S.Scheme.meaning c.args.scheme.now) c.args.coins.now c.args.out.now c.requires.coins c.requires.out _ (omega (arith, length-append {A = ℕ}, length_bytes)))
