-- What the steps of the two moves promise each other.
use Rattle.std.specs.Prelude.{◌≡◌, ℕ, ◌≤◌, List, Option}
use Rattle.vectors.specs.Words.{bytes}
use Rattle.relation.specs.Meaning.{RelationMeaning}
use Rattle.commitment.specs.Meaning.{SchemeMeaning}
use Rattle.masks.specs.Mask.{Mask, WellFormed, coin_string, mask_fault}
use Rattle.messages.specs.declared.challenge.Challenge.{Challenge}
use Rattle.messages.specs.Checks.{or_else}
use Rattle.messages.specs.Contents.{answer_slots, commitments_written}
use Rattle.moves.specs.Causes.{sizes}
use Rattle.moves.specs.Moves.{Triple, act, message_1, message_2}
use Rattle.moves.specs.Sizes.{committed_size, work_size, total_size, limit_fault, work_fault}
use Rattle.console_moves.specs.Faults.{challenge_fault, output_fault, commitments_size, answer_size}

module _ {E : Type 0} (relation : RelationMeaning E) (scheme : SchemeMeaning) (mask : Mask) where
  -- what is refused before the key is looked at
  abbrev pub commit_checks : ℕ → ℕ → Option ℕ
  commit_checks work out =
      or_else (limit_fault relation scheme)
      (or_else (mask_fault relation scheme.width mask)
      (or_else (work_fault relation work) (output_fault out (commitments_size relation scheme))))

  abbrev pub answer_checks : ℕ → ℕ → ℕ → Option ℕ
  answer_checks challenge work out =
      or_else (mask_fault relation scheme.width mask)
      (or_else (challenge_fault challenge)
      (or_else (work_fault relation work) (output_fault out (answer_size relation scheme challenge))))

  -- these checks have passed
  pub record CommitReady (work out : ℕ) : Type 0 where
    pub formed : WellFormed relation scheme.width mask
    pub limit_high : committed_size relation ≤ scheme.limit
    pub work_long : work_size relation ≤ work
    pub out_long : commitments_size relation scheme ≤ out

  pub record AnswerReady (asked : Challenge) (work out : ℕ) : Type 0 where
    pub formed : WellFormed relation scheme.width mask
    pub work_long : work_size relation ≤ work
    pub out_long : total_size (answer_slots asked (sizes relation scheme)) ≤ out

  -- the three commitments, where R + E is given as layers
  abbrev pub commitments_masked : List ℕ → Triple
  commitments_masked masked = record {
    one = scheme.value (coin_string scheme.width 0 mask.coins) (message_1 relation mask);
    two = scheme.value (coin_string scheme.width 1 mask.coins) (message_2 relation mask);
    three = scheme.value (coin_string scheme.width 2 mask.coins) (bytes (act relation mask.permutations masked));
  }

  abbrev pub masked_message : List ℕ → List ℕ
  masked_message masked = let c = commitments_masked masked in commitments_written c.one c.two c.three

-- the outputs hold three commitments
pub record Made (c : Triple) (one two three : List ℕ) : Type 0 where
  pub first : one ≡ c.one
  pub second : two ≡ c.two
  pub third : three ≡ c.three
