-- A message given in parts.
use Rattle.std.specs.Prelude.{ℕ, cond, List, [], ◌∷◌, ◌++◌, length, Some, None, Option, ◌==◌, nat_lt}
use Rattle.vectors.specs.declared.part.Part.{Part}
use Rattle.vectors.specs.Parts.{content}
use Rattle.commitment.specs.Meaning.{SchemeMeaning}

-- the contents of the parts, one after another
abbrev pub message : List Part → List ℕ
message [] = []
message (part ∷ parts) = content part ++ message parts

-- a commitment in one go: the coins, the output, then the message
abbrev pub commit_fault : SchemeMeaning → List ℕ → List ℕ → List ℕ → Option ℕ
commit_fault scheme coins text out =
    cond (length coins == scheme.width)
    (cond (length out == scheme.width) (cond (nat_lt scheme.limit (length text)) (Some 55) None) (Some 54))
    (Some 53)

-- opening asks for no output
abbrev pub open_fault : SchemeMeaning → List ℕ → List ℕ → Option ℕ
open_fault scheme coins text = cond (length coins == scheme.width) (cond (nat_lt scheme.limit (length text)) (Some 55) None) (Some 53)
