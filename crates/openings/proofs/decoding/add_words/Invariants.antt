use Rattle.std.proofs.Common.{◌≡◌, ◌*◌, length, drop, min}
use Rattle.std.specs.Iterator.Adapters.{enumerate_source, enumerate_count}
use Rattle.std.specs.Slice.Iter.{chunks_size, chunks_rest}
use Rattle.vectors.specs.Words.{words}
use Rattle.openings.proofs.Adding.{summed}
use Rattle.openings.proofs.decoding.add_words.Given as goal

abbrev pub invariant-loop-i : goal.invariant-loop-i
invariant-loop-i l = record {
  size : chunks_size (enumerate_source l.i-iterator) ≡ 128;
  rest : chunks_rest (enumerate_source l.i-iterator) ≡ drop (2 * min (64 * enumerate_count l.i-iterator) (length l.initial.sum)) l.bytes;
  sum : l.sum ≡ summed l.q l.initial.sum (words l.bytes) (min (64 * enumerate_count l.i-iterator) (length l.initial.sum));
}
