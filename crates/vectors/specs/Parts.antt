-- What a part of a message holds.
use Rattle.std.specs.Prelude.{ℕ, List}
use Rattle.vectors.specs.Words.{bytes}
use Rattle.vectors.specs.declared.part.Part.{Part}
use Rattle.vectors.specs.declared.part.Part.TheVariants.{Bytes, Words}

-- its bytes
abbrev pub content : Part → List ℕ
content (Bytes part) = part.now
content (Words part) = bytes part.now
