use Rattle.std.proofs.Common.{◌≡◌, ◌-◌, take, ap, ◌∙◌, arith}
use Rattle.vectors.specs.Counts.{count}
use Rattle.short_statement.proofs.Filling.{fill_counts, filled_from_parts}
use Rattle.short_statement.proofs.layers.fill_up.Goals as goal

pub fill_part-requires-3 : goal.fill_part-requires-3
fill_part-requires-3 c =
    let q = c.args.q in
    let m = c.args.each in
    let old = c.args.layer.now in
    let n : m - 0 ≡ m = omega arith in
    omega (
      arith,
      fill_counts q m old c.requires.1.1.0 c.requires.0 c.requires.1.1.1 (m - c.count_of.result) (m - c.count_of-2.result) (m - c.count_of-3.result)
          (ap (λ k. m - k) (c.count_of.ensures.0 ∙ ap (λ k. count (q - 1) (take k old)) n)) (ap (λ k. m - k) (c.count_of-2.ensures.0 ∙ ap (λ k. count 0 (take k old)) n))
          (ap (λ k. m - k) (c.count_of-3.ensures.0 ∙ ap (λ k. count 1 (take k old)) n)),
    )

pub returns : goal.returns
returns c =
    let q = c.args.q in
    let m = c.args.each in
    let old = c.args.layer.now in
    let n : m - 0 ≡ m = omega arith in
    filled_from_parts q m old c.requires.1.1.0 c.requires.0 c.requires.1.1.1 (m - c.count_of.result) (m - c.count_of-2.result) (m - c.count_of-3.result)
    (ap (λ k. m - k) (c.count_of.ensures.0 ∙ ap (λ k. count (q - 1) (take k old)) n)) (ap (λ k. m - k) (c.count_of-2.ensures.0 ∙ ap (λ k. count 0 (take k old)) n))
    (ap (λ k. m - k) (c.count_of-3.ensures.0 ∙ ap (λ k. count 1 (take k old)) n))
    c.fill_part.new.target c.fill_part-2.new.target c.fill_part-3.new.target c.fill_part.ensures c.fill_part-2.ensures c.fill_part-3.ensures
