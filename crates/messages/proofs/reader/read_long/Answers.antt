use Rattle.std.proofs.lemmas.Result.{err_from_is_err_and}
use Rattle.messages.specs.Steps.{long_slots}
use Rattle.messages.proofs.Reading.{handed, then_read, none_left, then_wrong, wrong_here, fault_is}
use Rattle.messages.proofs.reader.read_long.Goals as goal

pub returns-in_err-free : goal.returns-in_err-free
returns-in_err-free c =
    let p = err_from_is_err_and c.from_residual-in_err-free.result c.from_residual-in_err-free.ensures.1 in
    rw (p.1, p.2)
    (fault_is (long_slots c.args.tag c.args.sizes)
    (then_wrong c.in_ok-permutations.ensures (then_wrong c.in_ok-layers.ensures (wrong_here c.in_err-free.ensures))))

pub returns-in_err-lower_coins : goal.returns-in_err-lower_coins
returns-in_err-lower_coins c =
    let p = err_from_is_err_and c.from_residual-in_err-lower_coins.result c.from_residual-in_err-lower_coins.ensures.1 in
    rw (p.1, p.2)
    (fault_is (long_slots c.args.tag c.args.sizes)
    (then_wrong c.in_ok-permutations.ensures (then_wrong c.in_ok-layers.ensures (then_wrong c.in_ok-free.ensures (wrong_here c.in_err-lower_coins.ensures)))))

pub returns-in_err-upper_coins : goal.returns-in_err-upper_coins
returns-in_err-upper_coins c =
    let p = err_from_is_err_and c.from_residual-in_err-upper_coins.result c.from_residual-in_err-upper_coins.ensures.1 in
    rw (p.1, p.2)
    (fault_is (long_slots c.args.tag c.args.sizes)
    (then_wrong c.in_ok-permutations.ensures (then_wrong c.in_ok-layers.ensures (then_wrong c.in_ok-free.ensures (then_wrong c.in_ok-lower_coins.ensures (wrong_here c.in_err-upper_coins.ensures))))))

pub returns : goal.returns
returns c =
    handed _ _ _ (then_read c.in_ok-permutations.ensures (then_read c.in_ok-layers.ensures (then_read c.in_ok-free.ensures (then_read c.in_ok-lower_coins.ensures (then_read c.in_ok-upper_coins.ensures (none_left c.in_ok-end.ensures))))))
