-- What holds where a call is not refused: a line's part lies within the memory.
use Rattle.std.proofs.Common.{◌≡◌, ℕ, ◌+◌, ◌*◌, ◌<◌, ◌≤◌, length, None, arith}
use Rattle.std.proofs.lemmas.Nat.{mul-le}
use Rattle.vectors.proofs.Layers.{row_within}
use Rattle.relation.specs.Meaning.{RelationMeaning}
use Rattle.relation.specs.Laws.{RelationLaws}
use Rattle.commitment.specs.Meaning.{SchemeMeaning}
use Rattle.masks.specs.Mask.{Mask}
use Rattle.console_steps.specs.State.{ConsoleState, mask_size, coins_size}
use Rattle.console_steps.specs.Steps.{load_fault}
use Rattle.console_steps.proofs.Faults.{loads_from_fault}

-- a line's part lies within memory of four parts
pub row_fits : (line size len : ℕ) → line < 4 → 4 * size ≤ len → line * size + size ≤ len
row_fits line size len h fits = omega (arith, row_within line 4 size h)

pub few_entries : {E : Type 0} (relation : RelationMeaning E) → RelationLaws relation → relation.layer_count * relation.layer_len ≤ 11520
few_entries relation laws = mul-le relation.layer_count relation.layer_len 15 768 laws.layer_count_range.1 laws.layer_len_range.1

-- the parts of a mask that is loaded fit
module _ {E : Type 0} (relation : RelationMeaning E) (scheme : SchemeMeaning) (s : ConsoleState) (line : ℕ) (mask : Mask) (taken : load_fault relation scheme s line mask ≡ None) where
  pub numbers_fit : (n : ℕ) → n ≡ mask_size relation scheme → line * n + (length mask.permutations + length mask.layers + length mask.free) ≤ length s.numbers
  numbers_fit n e =
      let h = loads_from_fault relation scheme s line mask taken in
      rw e (omega (arith, row_fits line (mask_size relation scheme) (length s.numbers) h.inside h.room.numbers, h.mask_formed.permutations.size, h.mask_formed.layers.0, h.mask_formed.free.0))

  pub coins_fit : (n : ℕ) → n ≡ coins_size relation scheme → line * n + length mask.coins ≤ length s.coins
  coins_fit n e =
      let h = loads_from_fault relation scheme s line mask taken in
      rw e (omega (arith, row_fits line (coins_size relation scheme) (length s.coins) h.inside h.room.coins, h.mask_formed.coins))
