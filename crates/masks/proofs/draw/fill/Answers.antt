use Rattle.std.proofs.Common.{◌≡◌, ◌*◌, true, length, rules}
use Rattle.masks.specs.Mask.{sized}
use Rattle.masks.specs.Held.{mask_at}
use Rattle.masks.proofs.Drawn.{drawn_rest, drawn_filled}
use Rattle.masks.proofs.draw.fill.Goals as goal

pub count_read-requires : goal.count_read-requires
count_read-requires g c =
    let relation = g.R.Relation.meaning c.args.relation.now in
    let width = (g.S.Scheme.meaning c.args.scheme.now).width in
    let coins : length c.args.mask.now.coins.now ≡ 3 * width = search rules in
    drawn_rest relation (g.R.Relation.laws c.args.relation.now) width c.args.random.now _ (rw (c.ok_or.ensures.ok_part, c.in_ok-ok_or.was) at (c.draw_parts.ensures.drawn width coins))

pub returns-clause-outcome : goal.returns-clause-outcome
returns-clause-outcome g c =
    let relation = g.R.Relation.meaning c.args.relation.now in
    let width = (g.S.Scheme.meaning c.args.scheme.now).width in
    let coins : length c.args.mask.now.coins.now ≡ 3 * width = search rules in
    let drawn = rw (c.ok_or.ensures.ok_part, c.in_ok-ok_or.was) at (c.draw_parts.ensures.drawn width coins) in
    let sized : sized relation width (mask_at c.args.mask.now) ≡ true = search rules in
    drawn_filled relation (g.R.Relation.laws c.args.relation.now) width
    (mask_at c.args.mask.now) c.args.random.now _ c.count_read.result
    sized drawn c.count_read.ensures
