-- A scheme of the largest width, for tests.
use Rattle.std.specs.Prelude.{ℕ, List}
use Rattle.std.proofs.Common.{lit≤}
use Rattle.commitment.specs.Meaning.{SchemeMeaning, SchemeLaws, SchemeState}

abbrev pub widest : SchemeMeaning
widest = record {
  width = 128;
  limit = 0;
  value = λ coins message. coins;
}

abbrev pub widest_state : List ℕ → SchemeState
widest_state coins = record {
  values = λ rest. coins;
  room = 0;
}

pub widest_laws : SchemeLaws widest
widest_laws = record {
  width_low = lit≤ tt;
  width_high = lit≤ tt;
  value_length = λ coins message same short. same;
}
