-- A labelled scheme: a fixed label is fed before the message.
use Rattle.std.specs.Prelude.{ℕ, ◌-◌, ◌≤◌, cond, ◌||◌, List, ◌++◌, length, take, Some, None, Option, nat_lt}
use Rattle.std.proofs.Common.{arith, length-append, length-take}
use Rattle.commitment.specs.Meaning.{SchemeMeaning, SchemeLaws}

abbrev pub labelled : List ℕ → SchemeMeaning → SchemeMeaning
labelled label below = record {
  width = below.width;
  limit = below.limit - length label;
  value = λ coins message. below.value coins (label ++ message);
}

abbrev pub label_fault : SchemeMeaning → List ℕ → Option ℕ
label_fault below label = cond (nat_lt 16 (length label) || nat_lt below.limit (length label)) (Some 52) None

-- of the label, what the scheme below can take: all of it in every labelled scheme that is made
abbrev pub fitting : List ℕ → SchemeMeaning → List ℕ
fitting label below = take below.limit label

pub fitting_short : (label : List ℕ) (below : SchemeMeaning) → length (fitting label below) ≤ below.limit
fitting_short label below = omega (arith, length-take below.limit label)

pub labelled_laws : (label : List ℕ) (below : SchemeMeaning) → length label ≤ below.limit → SchemeLaws below → SchemeLaws (labelled label below)
labelled_laws label below fits laws = record {
  width_low = laws.width_low;
  width_high = laws.width_high;
  value_length = λ coins message same short. laws.value_length coins (label ++ message) same (omega (arith, length-append label message));
}
