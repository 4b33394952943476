-- Each example computes.
use Rattle.std.proofs.Common.{refl}
use Rattle.relation_examples.proofs.examples_hold.Goals as goal

pub returns : goal.returns
returns c = record {
  weight_made = refl;
  weight_outer = refl;
  weight_inner = refl;
  weight_wrong_image = refl;
  weight_one_too_few = refl;
  weight_no_bit = refl;
  weight_rotated = refl;
  weight_mask_image = refl;
  weight_masked_outer = refl;
  weight_masked_inner = refl;
  short_made = refl;
  short_key = refl;
  short_first_layer = refl;
  noise_made = refl;
  noise_both = refl;
  noise_first = refl;
  noise_neither = refl;
  noise_second = refl;
}
