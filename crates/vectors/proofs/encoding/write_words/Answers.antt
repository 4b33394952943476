use Rattle.std.proofs.Common.{sym, ap, ◌∙◌}
use Rattle.std.proofs.lemmas.List.{take_all}
use Rattle.vectors.specs.Over.{over}
use Rattle.vectors.specs.Words.{bytes}
use Rattle.vectors.proofs.Over.{over_none}
use Rattle.vectors.proofs.Words.{over-bytes_more}
use Rattle.vectors.proofs.encoding.write_words.Goals as goal

pub loop-i-init : goal.loop-i-init
loop-i-init c = sym (over_none c.args.out.now c.args.at)

pub loop-i-preserved : goal.loop-i-preserved
loop-i-preserved c =
    c.write_word.ensures
    ∙ over-bytes_more c.args.out.now c.loop-i.out c.args.at c.args.numbers.now c.loop-i.i c.loop-i-test.true c.requires c.loop-i.invariant

pub returns : goal.returns
returns c =
    c.loop-i.invariant ∙ ap (λ xs. over c.args.out.now c.args.at (bytes xs)) (take_all c.loop-i.i c.args.numbers.now c.loop-i-test.false)
