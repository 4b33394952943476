use Rattle.std.proofs.lemmas.Result.{err_from_is_err_and}
use Rattle.exchange_moves.proofs.Ready.{checked, turned_down}
use Rattle.exchange_moves.proofs.reading.read_checked.Goals as goal

pub returns-in_err-check_answer : goal.returns-in_err-check_answer
returns-in_err-check_answer g c =
    let read = c.in_ok-answer.ensures in
    let p = err_from_is_err_and c.from_residual-in_err-check_answer.result c.from_residual-in_err-check_answer.ensures.1 in
    rw (p.1, p.2)
    (turned_down (g.R.Relation.meaning c.args.relation.now) (g.S.Scheme.meaning c.args.scheme.now) c.args.message.now (λ i. (c.type_inv.message i).fits) c.args.challenge c.in_ok-answer.answer read.0
    c.content_sizes.result c.modulus.result c.layout.result c.content_sizes.ensures c.modulus.ensures c.layout.ensures read.1 c.in_err-check_answer.field-0.0 c.in_err-check_answer.ensures)

pub returns : goal.returns
returns g c =
    let read = c.in_ok-answer.ensures in
    checked (g.R.Relation.meaning c.args.relation.now) (g.S.Scheme.meaning c.args.scheme.now) c.args.message.now (λ i. (c.type_inv.message i).fits) c.args.challenge c.in_ok-answer.answer read.0
    c.content_sizes.result c.modulus.result c.layout.result c.content_sizes.ensures c.modulus.ensures c.layout.ensures read.1 c.in_ok-check_answer.ensures
