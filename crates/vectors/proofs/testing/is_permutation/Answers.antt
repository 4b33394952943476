use Rattle.std.proofs.Common.{length, sym, refl, arith}
use Rattle.std.proofs.lemmas.Bool.{both_ways}
use Rattle.vectors.proofs.Once.{get_or_unmarked, permutes_from_apart, not_permutes_past, not_permutes_twice}
use Rattle.vectors.proofs.testing.is_permutation.Goals as goal
use Rattle.vectors.proofs.testing.is_permutation.Goals.{then-place-positions-via-then-place-positions, then-place-positions-via-else-place-positions+then-seen-place}

pub loop-position-init : goal.loop-position-init
loop-position-init c =
    (refl, (λ k h. absurd (omega arith)), (λ i j u h. absurd (omega arith)), (λ k e. absurd (both_ways _ (get_or_unmarked 768 k) e)))

pub returns-then-place-positions : goal.returns-then-place-positions
returns-then-place-positions c =
    elim c.then-place-positions.branch [
      | then-place-positions-via-then-place-positions w ↦
          sym (not_permutes_past (length c.args.positions.now) c.args.positions.now c.loop-position.position-index (omega arith) (omega (arith, w.if-place-positions.true)))
      | then-place-positions-via-else-place-positions+then-seen-place w ↦
          let there = c.loop-position.invariant.3 _ w.if-seen-place.true in
          sym (not_permutes_twice (length c.args.positions.now) c.args.positions.now there.0 c.loop-position.position-index there.1 (omega arith) there.2)
    ]

pub returns : goal.returns
returns c =
    sym (permutes_from_apart (length c.args.positions.now) c.args.positions.now refl (λ i l. (c.loop-position.invariant.1 i (omega arith)).0)
    (λ i j u l. c.loop-position.invariant.2 i j u (omega arith)))
