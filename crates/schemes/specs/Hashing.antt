-- The hash scheme: SHA-256 of the coins followed by the message.
use Rattle.std.specs.Prelude.{◌-◌, ◌++◌}
use Rattle.std.proofs.Common.{lit≤}
use Rattle.sha256.specs.declared.state.Sha256.{Sha256}
use Rattle.sha256.specs.Hash.{sha256}
use Rattle.sha256.specs.State.{digest_after, fed}
use Rattle.sha256.proofs.Digests.{sha256-length}
use Rattle.commitment.specs.Meaning.{SchemeMeaning, SchemeLaws, SchemeState}

abbrev pub hash : SchemeMeaning
hash = record {
  width = 32;
  limit = 65536;
  value = λ coins message. sha256 (coins ++ message);
}

-- a hasher that has taken 32 coins and then a part of the message
abbrev pub hash_state : Sha256 → SchemeState
hash_state hasher = record {
  values = λ rest. digest_after hasher rest;
  room = 65568 - fed hasher;
}

pub hash_laws : SchemeLaws hash
hash_laws = record {
  width_low = lit≤ tt;
  width_high = lit≤ tt;
  value_length = λ coins message same short. sha256-length (coins ++ message);
}
