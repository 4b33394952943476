-- What a hasher stands for that has taken some bytes.
use Rattle.std.specs.Prelude.{◌≡◌, ℕ, ◌+◌, ◌%◌, List, ◌++◌, length, take}
use Rattle.sha256.specs.Hash.{chained, bytes_of, padding}
use Rattle.sha256.specs.declared.state.Blocks.{Blocks}
use Rattle.sha256.specs.declared.state.Sha256.{Sha256}

-- the hash value after all whole blocks of the bytes so far and then these
abbrev pub hash_after : Blocks → List ℕ → List ℕ
hash_after s bytes = chained s.hash (take s.filled s.held ++ bytes)

-- t is s after these bytes
pub record Absorbed (s : Blocks) (bytes : List ℕ) (t : Blocks) : Type 0 where
  pub hash : (m : List ℕ) → hash_after t m ≡ hash_after s (bytes ++ m)
  pub filled : t.filled ≡ (s.filled + length bytes) % 64

-- the digest of all bytes so far and then these
unfoldable pub digest_after : Sha256 → List ℕ → List ℕ
digest_after s bytes = bytes_of (hash_after s.running (bytes ++ padding (s.count + length bytes)))

-- the number of bytes so far
abbrev pub fed : Sha256 → ℕ
fed s = s.count
