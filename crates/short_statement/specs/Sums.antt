-- Sums over the layers at one place, not reduced.
use Rattle.std.specs.Prelude.{ℕ, zero, suc, ◌+◌, ◌*◌, List, drop, ℤ, pos, ◌+ℤ◌, slice_index}
use Rattle.relation_laws.specs.Short.{signed}

-- the sum of 2^j times entry i of layer j, where a layer has N entries
abbrev pub place_sum : ℕ → ℕ → ℕ → List ℕ → ℕ
place_sum N i zero zs = 0
place_sum N i (suc layers) zs = slice_index zs i + 2 * place_sum N i layers (drop N zs)

-- the same in whole numbers, with q − 1 read as −1
abbrev pub signed_place_sum : ℕ → ℕ → ℕ → ℕ → List ℕ → ℤ
signed_place_sum q N i zero zs = pos 0
signed_place_sum q N i (suc layers) zs = signed q (slice_index zs i) +ℤ (signed_place_sum q N i layers (drop N zs) +ℤ signed_place_sum q N i layers (drop N zs))
