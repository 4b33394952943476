-- A part of a list, and what writing one leaves.
use Rattle.std.specs.Prelude.{ℕ, ◌+◌, List, ◌++◌, length, take, drop, replicate}

-- the old list with `part` written over it from place `at` on
unfoldable pub over : {A : Type 0} → List A → ℕ → List A → List A
over old at part = take at old ++ (part ++ drop (at + length part) old)

-- n zeros
abbrev pub zeros : ℕ → List ℕ
zeros n = replicate n 0
