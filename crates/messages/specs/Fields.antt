-- How fields and messages are written.
use Rattle.std.specs.Prelude.{ℕ, ◌/◌, ◌%◌, List, [], ◌∷◌, ◌++◌, length}

-- a one-byte tag, a two-byte length with the high byte first, and the content
abbrev pub field : ℕ → List ℕ → List ℕ
field tag content = tag ∷ length content / 256 ∷ length content % 256 ∷ content

-- fields with these tags and contents, one after another
abbrev pub written : List ℕ → List (List ℕ) → List ℕ
written [] contents = []
written (tag ∷ tags) [] = []
written (tag ∷ tags) (content ∷ contents) = field tag content ++ written tags contents
