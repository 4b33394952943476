-- A console's lines and the memory that is lent to its calls.
use Rattle.std.specs.Prelude.{ℕ, ◌+◌, ◌*◌, Bool, true, false, cond, ◌||◌, List, length, take, drop, replicate, Some, None, Option, ◌==◌, nat_lt, slice_index_or, slice_set}
use Rattle.vectors.specs.Over.{over, zeros}
use Rattle.relation.specs.Meaning.{RelationMeaning}
use Rattle.commitment.specs.Meaning.{SchemeMeaning}
use Rattle.masks.specs.Mask.{Mask, mask_of}
use Rattle.console_steps.specs.declared.lines.Line.{Line}
use Rattle.console_steps.specs.declared.lines.Line.TheVariants.{Free, Loaded, Committed}

-- the states of the four lines, how many loads were done, and the lines' memory
pub record ConsoleState : Type 0 where
  pub lines : List Line
  pub loads : ℕ
  pub numbers : List ℕ
  pub coins : List ℕ

abbrev pub console_state : List Line → ℕ → List ℕ → List ℕ → ConsoleState
console_state lines loads numbers coins = record { lines = lines; loads = loads; numbers = numbers; coins = coins }

-- what a slip holds: its line and the number of its load; its kind says in which state the line has to be
pub data Slip : Type 0 where
  loaded : (line count : ℕ) → Slip
  committed : (line count : ℕ) → Slip

abbrev pub slip_line : Slip → ℕ
slip_line (loaded line count) = line
slip_line (committed line count) = line

abbrev pub slip_state : Slip → Line
slip_state (loaded line count) = Loaded count
slip_state (committed line count) = Committed count

-- whether two states of a line are the same
abbrev pub same_line : Line → Line → Bool
same_line Free Free = true
same_line Free (Loaded n) = false
same_line Free (Committed n) = false
same_line (Loaded m) Free = false
same_line (Loaded m) (Loaded n) = m == n
same_line (Loaded m) (Committed n) = false
same_line (Committed m) Free = false
same_line (Committed m) (Loaded n) = false
same_line (Committed m) (Committed n) = m == n

-- `size` entries from place `at` on
abbrev pub part : {A : Type 0} → ℕ → ℕ → List A → List A
part at size xs = take size (drop at xs)

abbrev pub line_at : ConsoleState → ℕ → Line
line_at s line = slice_index_or s.lines line Free

module _ {E : Type 0} (relation : RelationMeaning E) (scheme : SchemeMeaning) where
  -- how many numbers and how many coins a line's memory holds
  abbrev pub mask_size : ℕ
  mask_size = 2 * (relation.layer_count * relation.layer_len) + relation.free_len

  abbrev pub coins_size : ℕ
  coins_size = 3 * scheme.width

  -- where a line's numbers begin, and where its coins do
  abbrev pub numbers_start : ℕ → ℕ
  numbers_start line = line * mask_size

  abbrev pub coins_start : ℕ → ℕ
  coins_start line = line * coins_size

  -- the mask in a line's memory: permutations, R, v; apart from them the coins
  abbrev pub mask_in : (numbers coins : List ℕ) → ℕ → Mask
  mask_in numbers coins line =
      let size = relation.layer_count * relation.layer_len in
      mask_of (part (numbers_start line) size numbers) (part (numbers_start line + size) size numbers)
      (part (numbers_start line + size + size) relation.free_len numbers) (part (coins_start line) coins_size coins)

  abbrev pub mask_on : ConsoleState → ℕ → Mask
  mask_on s line = mask_in s.numbers s.coins line

  -- 35: the memory does not hold four masks
  abbrev pub memory_fault : ConsoleState → Option ℕ
  memory_fault s = cond (nat_lt (length s.numbers) (4 * mask_size) || nat_lt (length s.coins) (4 * coins_size)) (Some 35) None

  -- a line's numbers and coins written over, and its state set
  abbrev pub put : ConsoleState → ℕ → Line → ℕ → List ℕ → List ℕ → ConsoleState
  put s line state loads numbers coins =
      console_state (slice_set s.lines line state) loads (over s.numbers (numbers_start line) numbers) (over s.coins (coins_start line) coins)

  -- the mask zeroed and the line free
  abbrev pub cleared : ConsoleState → ℕ → ConsoleState
  cleared s line = put s line Free s.loads (zeros mask_size) (zeros coins_size)

-- lines 0 to 3 are free and nothing was loaded, whatever memory holds
abbrev pub new_console : List ℕ → List ℕ → ConsoleState
new_console numbers coins = console_state (replicate 4 Free) 0 numbers coins
