-- What a checked statement keeps: that no fault was found in it, and its sizes.
use Rattle.std.specs.Prelude.{◌≡◌, ℕ, ◌*◌, ◌<◌, ◌≤◌, Bool, false, length, is_some, Some, None, Option, refl}
use Rattle.std.specs.Range.{range_inclusive_start, range_inclusive_end}
use Rattle.std.specs.declared.ops.RangeInclusive.{RangeInclusive}
use Rattle.std.proofs.lemmas.Bool.{true≢false}
use Rattle.relation_laws.specs.Statements.{within}
use Rattle.statements.specs.declared.given.Given.{Given}

abbrev pub Faultless : Option ℕ → Type 0
Faultless fault = is_some fault ≡ false

pub none_from_faultless : (fault : Option ℕ) → Faultless fault → fault ≡ None
none_from_faultless None h = refl
none_from_faultless (Some n) h = absurd (true≢false h)

abbrev pub Dimensions : Given → Type 0
Dimensions given = (given.rows ≤ 128) × (given.columns ≤ 256)

-- a number of 16 bits that can be divided by
abbrev pub Divisor : Given → Type 0
Divisor given = (0 < given.modulus) × (given.modulus ≤ 65535)

abbrev pub Lengths : Given → Type 0
Lengths given = (length given.matrix.now ≡ given.rows * given.columns) × (length given.target.now ≡ given.rows)

-- from a range's start to its end, both included
abbrev pub in_range : RangeInclusive ℕ → ℕ → Bool
in_range range n = within (range_inclusive_start range) (range_inclusive_end range) n
