use Rattle.std.proofs.Common.{length, take, drop, sym, refl, ap, ◌∙◌, rules}
use Rattle.vectors.proofs.Words.{length_bytes}
use Rattle.vectors.specs.Parts.{content}
use Rattle.openings.specs.Shown.{numbers_in}
use Rattle.openings.proofs.Reading.{words_piece}
use Rattle.openings.proofs.rearranged.read_numbers.Goals as goal

pub overflow_add-from-in-Words : goal.overflow_add-from-in-Words
overflow_add-from-in-Words c =
    let e = ap (λ part. length (content part)) c.in-Words.is in
    let n = length_bytes c.in-Words.words.now in
    search rules

pub offset_bounds-words-from : goal.offset_bounds-words-from
offset_bounds-words-from c =
    let e = ap (λ part. length (content part)) c.in-Words.is in
    let n = length_bytes c.in-Words.words.now in
    search rules

pub slice_bounds-copy_from_slice-end : goal.slice_bounds-copy_from_slice-end
slice_bounds-copy_from_slice-end c =
    let e = ap (λ part. length (content part)) c.in-Words.is in
    let n = length_bytes c.in-Words.words.now in
    search rules

pub returns-in-Bytes : goal.returns-in-Bytes
returns-in-Bytes c =
    c.read_words.ensures ∙ words_piece c.in-Bytes.bytes.now c.args.from _ (length c.args.out.now) refl
    ∙ ap (λ part. take (length c.args.out.now) (drop c.args.from (numbers_in part))) (sym c.in-Bytes.is)
