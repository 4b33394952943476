use Rattle.std.proofs.Common.{◌≡◌, ◌≤◌, ◌+◌, ◌-◌, ◌*◌, min, take, length, sym, ap, ◌∙◌, arith}
use Rattle.sha256.specs.Block.{constants, words, extended, slid, rounds, loaded}
use Rattle.sha256.proofs.BigEndian.{length-words}
use Rattle.sha256.proofs.Windows.{slid_none, slid-add}
use Rattle.sha256.proofs.Rounds.{row, rounds_more, compress_is}
use Rattle.sha256.proofs.block.compress.Goals as goal
use Rattle.sha256.proofs.block.compress.Goals.{then-group-lt3, else-group-lt3}

pub loop-group-init : goal.loop-group-init
loop-group-init c = (c.words_of-words.ensures ∙ slid_none (words c.args.block.now), c.from-v.ensures)

pub loop-group-preserved : goal.loop-group-preserved
unfolding constants
loop-group-preserved c =
    let g = c.loop-group.group in
    let w = words c.args.block.now in
    let l : length w ≡ 16 = length-words c.args.block.now c.told-block in
    let more : 16 ≤ length w = omega arith in
    let same : g + 1 - 1 ≡ g = omega arith in
    let now : c.loop-group.words ≡ slid (16 * g) w =
    let e : 16 * min g 3 ≡ 16 * g = omega arith in
    c.loop-group.invariant.0 ∙ ap (λ n. slid n w) e in
    let next : c.if-group-lt3.words ≡ slid (16 * min (g + 1) 3) w =
    elim c.if-group-lt3.branch [
      | then-group-lt3 t ↦
          (let e : 16 * g + 16 ≡ 16 * min (g + 1) 3 = omega arith in
          t.words-is ∙ t.follow.ensures ∙ ap (slid 16) now ∙ sym (slid-add (16 * g) 16 w more) ∙ ap (λ n. slid n w) e)
      | else-group-lt3 t ↦ (let e : 16 * g ≡ 16 * min (g + 1) 3 = omega arith in t.words-is ∙ now ∙ ap (λ n. slid n w) e)
    ] in (
      next,
      rounds_more g c.loop-group.v _ (loaded c.args.hash) w _ c.loop-group-test.true l c.loop-group.invariant.1 (c.sixteen_rounds-v.ensures ∙ ap (rounds c.loop-group.v _) now) (row g _ c.loop-group-test.true)
          ∙ ap (λ n. rounds (loaded c.args.hash) (take (16 * (g + 1)) constants) (extended (16 * n) w)) (sym same),
    )

pub returns : goal.returns
returns c = c.added.ensures ∙ compress_is c.args.hash c.args.block.now c.loop-group.v c.loop-group.group (omega arith) c.loop-group.invariant.1
