use Rattle.std.proofs.Common.{◌≡◌, ℕ, ◌+◌, ◌*◌, ◌/◌, ◌<◌, ◌≤◌, List, ◌++◌, length, drop, min, sym, ap, ◌∙◌, arith, rules}
use Rattle.std.specs.Iterator.Adapters.{enumerate_source, enumerate_count}
use Rattle.std.specs.Slice.Iter.{chunks_rest}
use Rattle.vectors.specs.Words.{words}
use Rattle.vectors.proofs.Words.{length-words}
use Rattle.std.proofs.lemmas.List.{length-drop}
use Rattle.openings.proofs.Adding.{summed, summed_all, rest_behind, piece_fits, piece_added}
use Rattle.openings.proofs.decoding.add_words.Goals as goal

pub add_piece-requires : goal.add_piece-requires
add_piece-requires c =
    let xs : List ℕ = c.args.sum.now in
    let bs : List ℕ = c.args.bytes.now in
    let done : ℕ = min (64 * c.in-Some.i) (length xs) in
    let cut : drop (2 * done) bs ≡ c.in-Some.piece.now ++ chunks_rest (enumerate_source c.next.new.self) = search rules in
    let long : length c.in-Some.piece.now ≡ min 128 (length (drop (2 * done) bs)) = search rules in
    let left : 0 < length (drop (2 * done) bs) = search rules in
    let from : done ≡ 64 * c.in-Some.i = omega (arith, length-drop (2 * done) bs) in
    let fits = piece_fits c.args.q xs bs c.requires.lengths (64 * c.in-Some.i) c.in-Some.piece.now _ c.loop-i.sum (ap (λ n. drop (2 * n) bs) (sym from) ∙ cut)
    (long ∙ ap (λ n. min 128 (length (drop (2 * n) bs))) from) (search rules) (omega arith) c.requires.sum c.requires.numbers in
    record { lengths = fits.lengths; few = fits.few; sum = fits.sum; numbers = fits.numbers }

pub loop-i-preserved : goal.loop-i-preserved
loop-i-preserved c =
    let xs : List ℕ = c.args.sum.now in
    let bs : List ℕ = c.args.bytes.now in
    let done : ℕ = min (64 * c.in-Some.i) (length xs) in
    let cut : drop (2 * done) bs ≡ c.in-Some.piece.now ++ chunks_rest (enumerate_source c.next.new.self) = search rules in
    let long : length c.in-Some.piece.now ≡ min 128 (length (drop (2 * done) bs)) = search rules in
    let left : 0 < length (drop (2 * done) bs) = search rules in
    let from : done ≡ 64 * c.in-Some.i = omega (arith, length-drop (2 * done) bs) in
    let cut' : drop (2 * (64 * c.in-Some.i)) bs ≡ c.in-Some.piece.now ++ chunks_rest (enumerate_source c.next.new.self) = ap (λ n. drop (2 * n) bs) (sym from) ∙ cut in
    let long' : length c.in-Some.piece.now ≡ min 128 (length (drop (2 * (64 * c.in-Some.i)) bs)) = long ∙ ap (λ n. min 128 (length (drop (2 * n) bs))) from in
    let before : c.loop-i.sum ≡ summed c.args.q xs (words bs) (64 * c.in-Some.i) = search rules in
    let within : 64 * c.in-Some.i ≤ length xs = omega arith in
    let next : 64 * c.in-Some.i + length c.in-Some.piece.now / 2 ≡ min (64 * enumerate_count c.next.new.self) (length xs) =
    let counted : enumerate_count c.next.new.self ≡ c.in-Some.i + 1 = search rules in omega (arith, length-drop (2 * done) bs, length-drop (2 * (64 * c.in-Some.i)) bs) in
    record {
      size = search rules;
      rest = rest_behind c.args.q xs bs c.requires.lengths (64 * c.in-Some.i) c.in-Some.piece.now _ c.loop-i.sum cut' long' before within ∙ ap (λ n. drop (2 * n) bs) next;
      sum = piece_added c.args.q xs bs c.requires.lengths (64 * c.in-Some.i) c.in-Some.piece.now _ c.loop-i.sum cut' long' before within c.add_piece.new.sum c.add_piece.ensures ∙ ap (summed c.args.q xs (words bs)) next;
    }

pub returns : goal.returns
returns c =
    let xs : List ℕ = c.args.sum.now in
    let bs : List ℕ = c.args.bytes.now in
    let done : ℕ = min (64 * enumerate_count c.loop-i.i-iterator) (length xs) in
    let none : length (chunks_rest (enumerate_source c.loop-i.i-iterator)) ≡ 0 = search rules in
    let all : length xs ≤ done = omega (arith, ap length c.loop-i.invariant.rest, length-drop (2 * done) bs) in
    c.loop-i.invariant.sum ∙ summed_all c.args.q xs (words bs) done (sym (length-words (length xs) bs c.requires.lengths)) all
