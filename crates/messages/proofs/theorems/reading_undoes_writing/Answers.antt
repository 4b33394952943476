use Rattle.messages.proofs.RoundTrip.{reads_back}
use Rattle.messages.proofs.theorems.reading_undoes_writing.Goals as goal

pub returns : goal.returns
returns c = reads_back
