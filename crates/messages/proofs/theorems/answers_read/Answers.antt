use Rattle.messages.proofs.RoundTrip.{answers_read}
use Rattle.messages.proofs.theorems.answers_read.Goals as goal

pub returns : goal.returns
returns c = answers_read c.args.challenge c.args.sizes
