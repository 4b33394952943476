use Rattle.std.proofs.Common.{refl}
use Rattle.std.proofs.lemmas.Result.{err_from_is_err_and}
use Rattle.messages.specs.declared.challenge.Challenge.TheVariants.{One}
use Rattle.messages.specs.Contents.{answer_slots}
use Rattle.messages.proofs.Reading.{handed, then_read, none_left, then_wrong, wrong_here, fault_is}
use Rattle.messages.proofs.reader.read_first.Goals as goal

pub returns-in_err-coins_2 : goal.returns-in_err-coins_2
returns-in_err-coins_2 c =
    let p = err_from_is_err_and c.from_residual-in_err-coins_2.result c.from_residual-in_err-coins_2.ensures.1 in
    rw (p.1, p.2)
    (fault_is (answer_slots One c.args.sizes)
    (then_wrong c.in_ok-permuted_key.ensures (then_wrong c.in_ok-permuted_mask.ensures (wrong_here c.in_err-coins_2.ensures))))

pub returns-in_err-coins_3 : goal.returns-in_err-coins_3
returns-in_err-coins_3 c =
    let p = err_from_is_err_and c.from_residual-in_err-coins_3.result c.from_residual-in_err-coins_3.ensures.1 in
    rw (p.1, p.2)
    (fault_is (answer_slots One c.args.sizes)
    (then_wrong c.in_ok-permuted_key.ensures (then_wrong c.in_ok-permuted_mask.ensures (then_wrong c.in_ok-coins_2.ensures (wrong_here c.in_err-coins_3.ensures)))))

pub returns : goal.returns
returns c =
    (refl, handed _ _ _ (then_read c.in_ok-permuted_key.ensures (then_read c.in_ok-permuted_mask.ensures (then_read c.in_ok-coins_2.ensures (then_read c.in_ok-coins_3.ensures (none_left c.in_ok-end.ensures))))))
