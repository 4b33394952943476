-- Tests on whole lists.
use Rattle.std.specs.Prelude.{ℕ, Bool, List}
use Rattle.std.specs.Str.{bytes_eq}

-- whether two lists of numbers are equal
abbrev pub same : List ℕ → List ℕ → Bool
same xs ys = bytes_eq xs ys
