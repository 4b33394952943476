use Rattle.std.proofs.Common.{rules}
use Rattle.vectors.proofs.Words.{length_bytes}
use Rattle.answer_openings.proofs.first.open_first.Goals as goal

pub opens_by-requires-2-clause-limit : goal.opens_by-requires-2-clause-limit
opens_by-requires-2-clause-limit g c = search (rules, length_bytes)
