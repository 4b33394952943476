use Rattle.std.proofs.Common.{refl, arith}
use Rattle.messages.specs.declared.fields.Sizes.{Sizes}
use Rattle.answer_checks.proofs.Checkable.{residues_placeable, positions_sized}
use Rattle.message_examples.proofs.tests.check.Goals as goal

pub check_answer-requires : goal.check_answer-requires
check_answer-requires c =
    let sizes : Sizes = record { layers = 8; free = 2; width = 4 } in
    let h = c.in_ok-answer.ensures in
    let p = residues_placeable sizes c.args.message.now c.args.challenge c.in_ok-answer.answer h.0 h.1 (omega arith) in
    let s = positions_sized sizes c.args.message.now c.args.challenge c.in_ok-answer.answer h.0 h.1 2 2 refl in
    (p, (s, omega arith))
