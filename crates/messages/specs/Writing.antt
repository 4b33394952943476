-- When a message can be written, and what that leaves.
use Rattle.std.specs.Prelude.{◌≡◌, ℕ, ◌+◌, ◌*◌, ◌<◌, ◌≤◌, Bool, cond, ◌&&◌, List, [], ◌∷◌, length, Some, None, Option, nat_le}
use Rattle.vectors.specs.Over.{over}
use Rattle.vectors.specs.Words.{bytes}
use Rattle.messages.specs.Fields.{written}
use Rattle.messages.specs.Contents.{commitments_written}

-- a message stands at the start of the output, and its length was returned
pub record Wrote (before message out : List ℕ) (n : ℕ) : Type 0 where
  pub size : n ≡ length message
  pub after : out ≡ over before 0 message

-- whether two bytes hold each of three lengths, and three fields with these lengths have room
abbrev pub three_fit : ℕ → ℕ → ℕ → ℕ → Bool
three_fit room one two three = nat_le one 65535 && (nat_le two 65535 && (nat_le three 65535 && nat_le (9 + one + two + three) room))

-- 37 where two bytes do not hold a commitment's length, or the output is shorter than the message
abbrev pub commitments_fault : ℕ → List ℕ → List ℕ → List ℕ → Option ℕ
commitments_fault room one two three =
    cond (nat_le (length one) 65535 && (nat_le (length two) 65535 && (nat_le (length three) 65535 && nat_le (length (commitments_written one two three)) room))) None (Some 37)

-- the writing of an answer to challenge 2 or 3, whose tags begin with the given one
abbrev pub long_written : ℕ → List ℕ → List ℕ → List ℕ → List ℕ → List ℕ → List ℕ
long_written tag permutations layers free lower upper =
    written (tag ∷ (tag + 1) ∷ (tag + 2) ∷ (tag + 3) ∷ (tag + 4) ∷ []) (bytes permutations ∷ bytes layers ∷ bytes free ∷ lower ∷ upper ∷ [])

-- two bytes hold the length of each of its fields, and the fields have room
pub record LongFits (room : ℕ) (permutations layers free lower upper : List ℕ) : Type 0 where
  pub fields : 15 + 2 * length permutations + 2 * length layers + 2 * length free + length lower + length upper ≤ room
  pub permutations_short : 2 * length permutations < 65536
  pub layers_short : 2 * length layers < 65536
  pub free_short : 2 * length free < 65536
  pub lower_short : length lower < 65536
  pub upper_short : length upper < 65536
