-- An exchange's lines, and the log in memory that is lent to its calls.
use Rattle.std.specs.Prelude.{ℕ, ◌+◌, List, [], length, get_or, take, drop, replicate, slice_index_or, slice_set}
use Rattle.vectors.specs.Layers.{layer}
use Rattle.vectors.specs.Over.{over, zeros}
use Rattle.messages.specs.declared.challenge.Challenge.{Challenge}
use Rattle.messages.specs.declared.challenge.Challenge.TheVariants.{One}
use Rattle.moves.specs.Moves.{Triple}
use Rattle.exchange_steps.specs.declared.lines.LineState.{LineState}
use Rattle.exchange_steps.specs.declared.lines.LineState.TheVariants.{Free}
use Rattle.exchange_steps.specs.declared.log.Record.{Record}

pub record ExchangeState : Type 0 where
  pub lines : List LineState
  -- a row for each line, at whose start the three commitments stand
  pub table : List (List ℕ)
  -- how many entries the log has, and how many answer bytes
  pub entries : ℕ
  pub used : ℕ
  -- the log's memory
  pub records : List Record
  pub bytes : List ℕ

abbrev pub exchange_state : List LineState → List (List ℕ) → ℕ → ℕ → List Record → List ℕ → ExchangeState
exchange_state lines table entries used records bytes = record { lines = lines; table = table; entries = entries; used = used; records = records; bytes = bytes }

abbrev pub line_at : ExchangeState → ℕ → LineState
line_at s line = slice_index_or s.lines line Free

abbrev pub row_at : ExchangeState → ℕ → List ℕ
row_at s line = slice_index_or s.table line []

-- the three commitments at the start of a row, each of the scheme's width
abbrev pub commitments_in : ℕ → List ℕ → Triple
commitments_in width row = record { one = layer width 0 row; two = layer width 1 row; three = layer width 2 row }

abbrev pub with_line : ExchangeState → ℕ → LineState → ExchangeState
with_line s line state = exchange_state (slice_set s.lines line state) s.table s.entries s.used s.records s.bytes

-- a line with these bytes at the start of its row
abbrev pub with_row : ExchangeState → ℕ → LineState → List ℕ → ExchangeState
with_row s line state commitments =
    exchange_state (slice_set s.lines line state) (slice_set s.table line (over (row_at s line) 0 commitments)) s.entries s.used s.records s.bytes

-- one entry more
abbrev pub with_entry : ExchangeState → List ℕ → Challenge → List ℕ → ExchangeState
with_entry s row challenge message =
    exchange_state s.lines s.table (s.entries + 1) (s.used + length message)
    (slice_set s.records s.entries (record { commitments = row; challenge = challenge; start = s.used; len = length message })) (over s.bytes s.used message)

-- an entry of the log: a yes that was given
pub record Entry : Type 0 where
  pub commitments : Triple
  pub challenge : Challenge
  pub message : List ℕ

abbrev pub no_record : Record
no_record = record { commitments = []; challenge = One; start = 0; len = 0 }

-- the entry that memory holds
abbrev pub entry_in : ℕ → ExchangeState → ℕ → Entry
entry_in width s i =
    let r = get_or s.records i no_record in
    record { commitments = commitments_in width r.commitments; challenge = r.challenge; message = take r.len (drop r.start s.bytes) }

-- free lines and an empty log, whatever memory holds
abbrev pub new_exchange : List Record → List ℕ → ExchangeState
new_exchange records bytes = exchange_state (replicate 4 Free) (replicate 4 (zeros 384)) 0 0 records bytes
