use Rattle.messages.proofs.Reading.{handed, then_read, none_left}
use Rattle.messages.proofs.reader.read_commitments.Goals as goal

pub returns : goal.returns
returns c = handed _ _ _ (then_read c.in_ok-first.ensures (then_read c.in_ok-second.ensures (then_read c.in_ok-third.ensures (none_left c.in_ok-end.ensures))))
