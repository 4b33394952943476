use Rattle.std.proofs.Common.{◌≡◌, ℕ, ◌+◌, ◌*◌, ◌≤◌, List, ◌++◌, length}
use Rattle.std.specs.Slice.Iter.{chunks_rest, chunks_size}
use Rattle.vectors.specs.Words.{bytes}
use Rattle.commitment.proofs.message.feed_words.Given as goal

abbrev pub invariant-loop-piece : goal.invariant-loop-piece
invariant-loop-piece g l =
    (chunks_size l.piece-iterator ≡ 64)
    × (length l.buffer ≡ 128)
    × (2 * length l.words ≤ (g.S.Scheme.state l.initial.scheme).room)
    × (g.S.Scheme.meaning l.scheme ≡ g.S.Scheme.meaning l.initial.scheme)
    × ((rest : List ℕ) → (g.S.Scheme.state l.scheme).values (bytes (chunks_rest l.piece-iterator) ++ rest) ≡ (g.S.Scheme.state l.initial.scheme).values (bytes l.words ++ rest))
    × ((g.S.Scheme.state l.scheme).room + 2 * length l.words ≡ (g.S.Scheme.state l.initial.scheme).room + 2 * length (chunks_rest l.piece-iterator))
