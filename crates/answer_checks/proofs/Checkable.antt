-- The checks can be made on every answer that the reader hands out.
use Rattle.std.proofs.Common.{◌≡◌, ℕ, ◌*◌, ◌^◌, ◌<◌, List, length, sym, subst, arith}
use Rattle.messages.specs.declared.challenge.Challenge.{Challenge}
use Rattle.messages.specs.declared.fields.Answer.{Answer}
use Rattle.messages.specs.declared.fields.Answer.TheVariants.{First, Second, Third}
use Rattle.messages.specs.declared.fields.Sizes.{Sizes}
use Rattle.messages.specs.Contents.{answer_slots, answer_fields, asked, Handed}
use Rattle.messages.proofs.Handing.{handed_sized, handed_within}
use Rattle.answer_checks.specs.Bounds.{ResiduesPlaceable, PositionsSized}

module _ (sizes : Sizes) (message : List ℕ) where
  placeable : (a : Answer) → Handed (answer_slots (asked a) sizes) message (answer_fields a) → length message < 2 ^ 64 → ResiduesPlaceable a
  placeable (First a b c d) h l =
      let w = handed_within _ message _ h in
      (omega (arith, w.0), omega (arith, w.1.0))
  placeable (Second a b c d e) h l =
      let w = handed_within _ message _ h in
      (omega (arith, w.1.0), omega (arith, w.1.1.0))
  placeable (Third a b c d e) h l =
      let w = handed_within _ message _ h in
      (omega (arith, w.1.0), omega (arith, w.1.1.0))

  sized : (N K : ℕ) (a : Answer) → sizes.layers ≡ 2 * (K * N) → Handed (answer_slots (asked a) sizes) message (answer_fields a) → PositionsSized N K a
  sized N K (First a b c d) n h = tt
  sized N K (Second a b c d e) n h = let s = handed_sized _ message _ h in cc
  sized N K (Third a b c d e) n h = let s = handed_sized _ message _ h in cc

  module _ (challenge : Challenge) (a : Answer) (e : asked a ≡ challenge) (h : Handed (answer_slots challenge sizes) message (answer_fields a)) where
    at_asked : Handed (answer_slots (asked a) sizes) message (answer_fields a)
    at_asked = subst (λ c. Handed (answer_slots c sizes) message (answer_fields a)) (sym e) h

    pub residues_placeable : length message < 2 ^ 64 → ResiduesPlaceable a
    residues_placeable l = placeable a at_asked l

    pub positions_sized : (N K : ℕ) → sizes.layers ≡ 2 * (K * N) → PositionsSized N K a
    positions_sized N K n = sized N K a n at_asked
