use Rattle.std.proofs.Common.{◌≡◌, [], length, get_or, arith, rules}
use Rattle.exchange.proofs.Rows.{row_suffices}
use Rattle.exchange.proofs.exchange.Exchange.open.Goals as goal

pub copy_three-requires : goal.copy_three-requires
copy_three-requires g c =
    let read = c.in_ok-commitments.commitments in
    let wide = c.width.ensures in
    let laws = g.S.Scheme.laws c.args.self.now.scheme in
    let row : length (get_or c.args.self.now.table c.args.line []) ≡ 384 = search rules in
    let fits = row_suffices c.width.result c.args.message.now read.first.content.now read.second.content.now read.third.content.now
    c.in_ok-commitments.ensures.contents (omega (arith, laws.width_high)) in
    omega arith
