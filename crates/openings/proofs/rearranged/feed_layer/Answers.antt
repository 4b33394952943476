use Rattle.std.proofs.Common.{◌≡◌, ◌≤◌, length, arith, rules}
use Rattle.vectors.specs.Words.{bytes}
use Rattle.vectors.proofs.Words.{length_bytes}
use Rattle.openings.proofs.Never.{answers, feed_none}
use Rattle.openings.proofs.rearranged.feed_layer.Goals as goal

pub unwrap-requires : goal.unwrap-requires
unwrap-requires g c =
    let moved = c.permute.new.out in
    let long : length moved ≡ length c.args.layer.now = search rules in
    let state = g.S.Scheme.state c.args.scheme.now in
    let fits : length (bytes moved) ≤ state.room = omega (arith, length_bytes moved) in
    answers _ c.feed_words.result _ _ c.feed_words.ensures.outcome (feed_none state (length (bytes moved)) fits)
