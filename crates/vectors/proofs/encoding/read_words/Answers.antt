use Rattle.std.proofs.Common.{ℕ, ◌+◌, ◌*◌, ◌<◌, ◌≢◌, List, [], length, map, get_or, sym, ap, ◌∙◌, arith, rules, get_or-set_other, get_or-set_same, below_more}
use Rattle.std.proofs.lemmas.List.{ext_get_or, get_or-map}
use Rattle.vectors.specs.Words.{words}
use Rattle.vectors.proofs.Words.{length-words, words_by_pairs}
use Rattle.vectors.proofs.encoding.read_words.Goals as goal

pub loop-i-preserved : goal.loop-i-preserved
loop-i-preserved c =
    below_more _ _
    (λ k h. let ne : k ≢ c.loop-i.i = omega arith in rw get_or-set_other (c.loop-i.invariant k h))
    (let within : c.loop-i.i < length c.loop-i.out = omega arith in rw get_or-set_same (search rules))

pub returns : goal.returns
returns c =
    let n = length c.args.out.now in
    let size = length-words n c.args.bytes.now c.requires in
    let number : List ℕ → ℕ = λ pair. get_or pair 0 0 * 256 + get_or pair 1 0 in
    let pairs = c.as_chunks.ensures.front in
    ext_get_or 0 c.loop-i.out (words c.args.bytes.now) (omega arith)
    (λ k h.
    c.loop-i.invariant k (omega arith) ∙ sym (get_or-map number c.as_chunks.result.0.now k [] 0 (omega arith))
    ∙ ap (λ xs. get_or xs k 0) (sym (words_by_pairs c.args.bytes.now ∙ ap (map number) (sym pairs))))
