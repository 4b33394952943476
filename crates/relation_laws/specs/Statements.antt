-- Statements, and when the making of one is refused.
use Rattle.std.specs.Prelude.{ℕ, ◌*◌, Bool, cond, ◌&&◌, List, length, Some, None, Option, ◌==◌, nat_le}
use Rattle.vectors.specs.Residues.{below}

pub record Statement : Type 0 where
  -- the modulus
  pub q : ℕ
  pub rows : ℕ
  pub columns : ℕ
  -- the number of ones (weight, noise), or the largest size of an entry (short)
  pub bound : ℕ
  -- rows times columns residues, row by row
  pub matrix : List ℕ
  -- one residue for each row
  pub target : List ℕ

-- lowest and highest, both included
abbrev pub within : ℕ → ℕ → ℕ → Bool
within low high n = nat_le low n && nat_le n high

-- the ranges of the modulus and of the bound are those of the kind
abbrev pub statement_fault : (q_in bound_in : Bool) → Statement → Option ℕ
statement_fault q_in bound_in s =
    cond (within 1 128 s.rows && (within 1 256 s.columns && nat_le (s.rows * s.columns) 16384))
    (cond q_in
    (cond bound_in
    (cond (length s.matrix == s.rows * s.columns && length s.target == s.rows)
    (cond (below s.q s.matrix && below s.q s.target) None (Some 15))
    (Some 14))
    (Some 13))
    (Some 12))
    (Some 11)

abbrev pub weight_fault : Statement → Option ℕ
weight_fault s = statement_fault (within 2 65535 s.q) (within 1 s.columns s.bound) s

abbrev pub short_fault : Statement → Option ℕ
short_fault s = statement_fault (within 3 65535 s.q) (within 1 32767 s.bound) s

abbrev pub noise_fault : Statement → Option ℕ
noise_fault s = statement_fault (s.q == 2) (within 1 s.rows s.bound) s
