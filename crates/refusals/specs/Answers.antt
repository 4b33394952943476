-- What calls promise: one that refuses exactly under a computed fault, and one that does what a step says.
use Rattle.std.specs.Prelude.{◌≡◌, ℕ, Some, None, Ok, Err, Option, Result}
use Rattle.refusals.specs.declared.refusal.Refusal.{Refusal}
use Rattle.refusals.specs.Numbers.{number}

-- without a fault the call answers a value with P; with one it refuses by the fault's number, and Q holds
abbrev pub Answered : {X : Type 0} → Option ℕ → Result X Refusal → (X → Type 0) → Type 0 → Type 0
Answered fault (Ok value) P Q = (fault ≡ None) × P value
Answered fault (Err refusal) P Q = (fault ≡ Some (number refusal)) × Q

-- a call ended with this result and this state, as the step says
abbrev pub Ends : {T S : Type 0} → T → S → T × S → Type 0
Ends result state step = (result ≡ step.0) × (state ≡ step.1)
