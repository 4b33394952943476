-- Worked examples of dice, on an exchange whose line 2 is opened, whatever else it holds.
use Rattle.std.specs.Prelude.{◌≡◌, ℕ, List, [], ◌∷◌, Ok, Err}
use Rattle.refusals.specs.declared.refusal.Refusal.TheVariants.{LineNotOpened, DiceByte}
use Rattle.messages.specs.declared.challenge.Challenge.TheVariants.{One, Two, Three}
use Rattle.exchange_steps.specs.declared.lines.LineState.TheVariants.{Free, Opened, Challenged}
use Rattle.exchange_steps.specs.declared.log.Record.{Record}
use Rattle.exchange_steps.specs.State.{ExchangeState, exchange_state}
use Rattle.exchange_steps.specs.Steps.{dice_step}

module _ (table : List (List ℕ)) (entries used : ℕ) (records : List Record) (bytes : List ℕ) where
  abbrev pub before : ExchangeState
  before = exchange_state (Free ∷ Free ∷ Opened ∷ Free ∷ []) table entries used records bytes

  pub record Examples : Type 0 where
    -- the byte 255 is refused by 43, and nothing changes
    pub byte_255 : dice_step before 2 255 ≡ (Err DiceByte, before)
    -- 252, 253 and 254 are the highest bytes that give a challenge
    pub byte_252 : dice_step before 2 252 ≡ (Ok One, exchange_state (Free ∷ Free ∷ Challenged One ∷ Free ∷ []) table entries used records bytes)
    pub byte_253 : dice_step before 2 253 ≡ (Ok Two, exchange_state (Free ∷ Free ∷ Challenged Two ∷ Free ∷ []) table entries used records bytes)
    pub byte_254 : dice_step before 2 254 ≡ (Ok Three, exchange_state (Free ∷ Free ∷ Challenged Three ∷ Free ∷ []) table entries used records bytes)
    -- line 1 is free
    pub free_line : dice_step before 1 255 ≡ (Err LineNotOpened, before)
