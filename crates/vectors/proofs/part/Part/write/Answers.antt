use Rattle.std.proofs.Common.{rules}
use Rattle.vectors.proofs.Words.{length_bytes}
use Rattle.vectors.proofs.part.Part.write.Goals as goal

pub write_words-requires : goal.write_words-requires
write_words-requires c = search (rules, length_bytes)
