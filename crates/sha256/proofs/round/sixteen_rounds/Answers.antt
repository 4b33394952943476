use Rattle.sha256.proofs.Rounds.{sixteen_rounds}
use Rattle.sha256.proofs.round.sixteen_rounds.Goals as goal

pub returns : goal.returns
returns c =
    sixteen_rounds c.args.k.now c.args.w.now c.told-k c.told-w c.args.v _ _ _ _ _ _ _ _ _ _ _ _ _ _ _ _
    c.round-v.ensures c.round-v-2.ensures c.round-v-3.ensures c.round-v-4.ensures
    c.round-v-5.ensures c.round-v-6.ensures c.round-v-7.ensures c.round-v-8.ensures
    c.round-v-9.ensures c.round-v-10.ensures c.round-v-11.ensures c.round-v-12.ensures
    c.round-v-13.ensures c.round-v-14.ensures c.round-v-15.ensures c.round.ensures
