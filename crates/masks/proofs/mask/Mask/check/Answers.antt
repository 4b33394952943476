use Rattle.masks.specs.Held.{mask_in}
use Rattle.masks.proofs.Checked.{tests_passed, refused_by_content}
use Rattle.masks.proofs.mask.Mask.check.Goals as goal

pub returns-then-not-is_sound : goal.returns-then-not-is_sound
returns-then-not-is_sound g c =
    refused_by_content (g.R.Relation.meaning c.args.relation.now) (g.S.Scheme.meaning c.args.scheme.now).width (mask_in c.args.self) c.if-not-is_sized.ensures c.if-not-is_sound.ensures

pub returns : goal.returns
returns g c =
    tests_passed (g.R.Relation.meaning c.args.relation.now) (g.S.Scheme.meaning c.args.scheme.now).width (mask_in c.args.self) c.if-not-is_sized.ensures c.if-not-is_sound.ensures
