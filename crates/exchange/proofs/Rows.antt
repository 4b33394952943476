-- The commitments of a message fit into the row of a line.
use Rattle.std.proofs.Common.{◌≡◌, ℕ, ◌+◌, ◌≤◌, List, [], ◌∷◌, length, take, drop, ap, arith}
use Rattle.std.proofs.lemmas.List.{length-take}
use Rattle.messages.specs.Reading.{contents}
use Rattle.messages.specs.Contents.{commitment_slots}

-- the three commitments of a message fit into a row
pub row_suffices : (width : ℕ) (message one two three : List ℕ) → one ∷ two ∷ three ∷ [] ≡ contents (commitment_slots width) 0 message → width ≤ 128
    → length one + length two + length three ≤ 384
row_suffices width message one two three e wide =
    let first : length one ≤ width = short 3 one (cc) in
    let second : length two ≤ width = short (0 + 3 + width + 3) two (cc) in
    let third : length three ≤ width = short (0 + 3 + width + 3 + width + 3) three (cc) in
    omega arith
  where
    short : (from : ℕ) (part : List ℕ) → part ≡ take width (drop from message) → length part ≤ width
    short from part p = omega (arith, ap length p, length-take width (drop from message))
