-- Each example computes.
use Rattle.std.proofs.Common.{refl}
use Rattle.mask_examples.proofs.examples_hold.Goals as goal

pub returns : goal.returns
returns c = record {
  word_accepted = refl;
  word_skipped = refl;
  four_places = refl;
  one_byte_left = refl;
}
