use Rattle.std.proofs.Common.{[], ◌∷◌, length, sym, ◌∙◌, arith}
use Rattle.std.proofs.lemmas.Bool.{cond-true}
use Rattle.messages.proofs.Writing.{placed_none, placed_more, wrote, commitments_fault_is, room_from_fit}
use Rattle.messages.proofs.writer.write_commitments.Goals as goal

pub returns : goal.returns
returns c =
    let h = room_from_fit (length c.args.out.now) (length c.args.commitments.one.now) (length c.args.commitments.two.now) (length c.args.commitments.three.now) (sym c.if-not-three_fit.ensures) in (
      commitments_fault_is (length c.args.out.now) c.args.commitments.one.now c.args.commitments.two.now c.args.commitments.three.now ∙ cond-true _ _ _ (sym c.if-not-three_fit.ensures),
      wrote c.args.out.now (1 ∷ 2 ∷ 3 ∷ []) (c.args.commitments.one.now ∷ c.args.commitments.two.now ∷ c.args.commitments.three.now ∷ []) c.write_field-end.new.out c.write_field-end.result
          (placed_more c.write_field-second_at.ensures.after
          (placed_more c.write_field-third_at.ensures.after
          (placed_more c.write_field-end.ensures.after (placed_none c.write_field-end.new.out c.write_field-end.result) (omega arith) c.write_field-end.ensures.value)
          (omega arith) c.write_field-third_at.ensures.value)
          (omega arith) c.write_field-second_at.ensures.value),
    )
