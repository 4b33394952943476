-- What a commitment scheme means, what a state of it means, and when its calls refuse.
use Rattle.std.specs.Prelude.{◌≡◌, ℕ, ◌-◌, ◌≤◌, cond, List, ◌++◌, length, Some, None, Option, ◌==◌, nat_lt}
use Rattle.vectors.specs.Over.{zeros}

pub record SchemeMeaning : Type 0 where
  -- the length of coins and of commitments
  pub width : ℕ
  -- the length of the longest message
  pub limit : ℕ
  -- the commitment of coins and a message
  pub value : List ℕ → List ℕ → List ℕ

pub record SchemeLaws (scheme : SchemeMeaning) : Type 0 where
  pub width_low : 1 ≤ scheme.width
  pub width_high : scheme.width ≤ 128
  pub value_length : (coins message : List ℕ) → length coins ≡ scheme.width → length message ≤ scheme.limit → length (scheme.value coins message) ≡ scheme.width

pub record SchemeState : Type 0 where
  -- the commitment for each continuation: if these bytes are fed next, and no more
  pub values : List ℕ → List ℕ
  -- how many bytes may still be fed
  pub room : ℕ

-- started with these coins, and nothing fed yet
pub record Started (scheme : SchemeMeaning) (coins : List ℕ) (state : SchemeState) : Type 0 where
  pub values : (rest : List ℕ) → state.values rest ≡ scheme.value coins rest
  pub room : state.room ≡ scheme.limit

-- a newly made scheme counts as started with all-zero coins
abbrev pub Fresh : SchemeMeaning → SchemeState → Type 0
Fresh scheme state = Started scheme (zeros scheme.width) state

-- these bytes have been fed
pub record Fed (before : SchemeState) (bytes : List ℕ) (after : SchemeState) : Type 0 where
  pub values : (rest : List ℕ) → after.values rest ≡ before.values (bytes ++ rest)
  pub room : after.room ≡ before.room - length bytes

abbrev pub start_fault : SchemeMeaning → List ℕ → Option ℕ
start_fault scheme coins = cond (length coins == scheme.width) None (Some 53)

abbrev pub finish_fault : SchemeMeaning → List ℕ → Option ℕ
finish_fault scheme out = cond (length out == scheme.width) None (Some 54)

abbrev pub feed_fault : SchemeState → ℕ → Option ℕ
feed_fault state size = cond (nat_lt state.room size) (Some 55) None
