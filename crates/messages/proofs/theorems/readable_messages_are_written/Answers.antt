use Rattle.messages.proofs.RoundTrip.{written_so}
use Rattle.messages.proofs.theorems.readable_messages_are_written.Goals as goal

pub returns : goal.returns
returns c = written_so
