-- The console's two messages, and when making one is refused.
use Rattle.std.specs.Prelude.{ℕ, cond, ◌&&◌, List, Some, None, Option, ◌==◌, nat_le, nat_lt}
use Rattle.relation.specs.Meaning.{RelationMeaning}
use Rattle.commitment.specs.Meaning.{SchemeMeaning}
use Rattle.masks.specs.Mask.{Mask, mask_fault}
use Rattle.messages.specs.declared.challenge.Challenge.{Challenge}
use Rattle.messages.specs.declared.challenge.Challenge.TheVariants.{One, Two, Three}
use Rattle.messages.specs.Checks.{or_else}
use Rattle.messages.specs.Contents.{commitment_slots, answer_slots, commitments_written, answer_written}
use Rattle.moves.specs.Moves.{commitments, answer}
use Rattle.moves.specs.Causes.{sizes}
use Rattle.moves.specs.Sizes.{total_size, limit_fault, work_fault}

-- 38: only 1, 2 and 3 are challenges
abbrev pub challenge_fault : ℕ → Option ℕ
challenge_fault n = cond (nat_le 1 n && nat_le n 3) None (Some 38)

-- the challenge with a number that is one
abbrev pub challenge_numbered : ℕ → Challenge
challenge_numbered n = cond (n == 1) One (cond (n == 2) Two Three)

-- 37: the output is shorter than the message
abbrev pub output_fault : ℕ → ℕ → Option ℕ
output_fault out size = cond (nat_lt out size) (Some 37) None

module _ {E : Type 0} (relation : RelationMeaning E) (scheme : SchemeMeaning) where
  abbrev pub commitments_message : List E → Mask → List ℕ
  commitments_message key mask =
      let c = commitments relation scheme key mask in commitments_written c.one c.two c.three

  abbrev pub answer_message : List E → Mask → ℕ → List ℕ
  answer_message key mask challenge = answer_written (answer relation scheme key mask (challenge_numbered challenge))

  abbrev pub commitments_size : ℕ
  commitments_size = total_size (commitment_slots scheme.width)

  abbrev pub answer_size : ℕ → ℕ
  answer_size challenge = total_size (answer_slots (challenge_numbered challenge) (sizes relation scheme))

  -- `work` and `out` are lengths
  abbrev pub commit_fault : List E → Mask → ℕ → ℕ → Option ℕ
  commit_fault key mask work out =
      or_else (limit_fault relation scheme)
      (or_else (mask_fault relation scheme.width mask)
      (or_else (work_fault relation work)
      (or_else (output_fault out commitments_size)
      (relation.key_fault key))))

  abbrev pub answer_fault : List E → Mask → ℕ → ℕ → ℕ → Option ℕ
  answer_fault key mask challenge work out =
      or_else (mask_fault relation scheme.width mask)
      (or_else (challenge_fault challenge)
      (or_else (work_fault relation work)
      (or_else (output_fault out (answer_size challenge))
      (relation.key_fault key))))
