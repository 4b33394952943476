use Rattle.std.proofs.Common.{◌*◌, ◌≤◌, ◌++◌, length, take, sym, ap, ◌∙◌, arith}
use Rattle.std.specs.Slice.Iter.{chunks_rest}
use Rattle.std.proofs.lemmas.List.{append_assoc, length-append, nil_from_length}
use Rattle.std.proofs.lemmas.Bool.Decides.{nat_tests}
use Rattle.vectors.specs.Words.{bytes}
use Rattle.vectors.proofs.Words.{length_bytes, bytes-append}
use Rattle.commitment.proofs.Feeding.{piece_written}
use Rattle.commitment.proofs.message.feed_words.Goals as goal

pub loop-piece-preserved : goal.loop-piece-preserved
loop-piece-preserved g c =
    let inv = c.loop-piece.invariant in
    let before = g.S.Scheme.state c.loop-piece.scheme in
    let left = chunks_rest c.next.new.self in
    let piece = c.in-Some.piece.now in
    let step = c.in-Some.ensures.steps in
    let fed = c.in_ok-feed.ensures in
    let small : 2 * length piece ≤ length c.loop-piece.buffer = omega arith in
    let written = ap (take (2 * length piece)) c.write_words.ensures ∙ piece_written c.loop-piece.buffer piece small in (
      step.0 ∙ inv.0,
      omega arith,
      inv.2,
      fed.kept ∙ inv.3,
      (λ rest. fed.outcome.1.values (bytes left ++ rest)
          ∙ ap before.values (ap (λ l. l ++ (bytes left ++ rest)) written ∙ sym (append_assoc (bytes piece) (bytes left) rest)
          ∙ ap (λ l. l ++ rest) (sym (bytes-append piece left) ∙ ap bytes (sym step.1.0)))
          ∙ inv.4 rest),
      omega (arith, fed.outcome.1.room, ap length written, length_bytes piece, ap length step.1.0, length-append piece left, inv.5),
    )

pub returns-clause-outcome : goal.returns-clause-outcome
returns-clause-outcome g c =
    let words = c.args.words.now in
    let inv = c.loop-piece.invariant in
    let size = length_bytes words in
    let none = c.in-None.ensures.steps.1.0 in
    let end = nil_from_length (chunks_rest c.loop-piece.piece-iterator) none in (
      grind (arith, nat_tests),
      record {
        values = λ rest. ap (λ l. (g.S.Scheme.state c.loop-piece.scheme).values (bytes l ++ rest)) (sym end) ∙ inv.4 rest;
        room = omega (arith, inv.5, none);
      },
    )
