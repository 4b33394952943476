use Rattle.std.proofs.Common.{arith}
use Rattle.masks.specs.Held.{mask_in}
use Rattle.console_moves.proofs.Asked.{permutations_long, permutations_within}
use Rattle.console_moves.proofs.committing.commit_three.Goals as goal

pub commit_with_image-requires-clause-limit : goal.commit_with_image-requires-clause-limit
commit_with_image-requires-clause-limit g c = omega (arith, permutations_long (g.R.Relation.meaning c.args.relation.now) (g.S.Scheme.meaning c.args.scheme.now).width (mask_in c.args.mask) c.requires.formed)

pub commit_rearranged-requires-clause-permutations : goal.commit_rearranged-requires-clause-permutations
commit_rearranged-requires-clause-permutations g c = rw c.layout-layout.ensures (permutations_long (g.R.Relation.meaning c.args.relation.now) (g.S.Scheme.meaning c.args.scheme.now).width (mask_in c.args.mask) c.requires.formed)

pub commit_rearranged-requires-clause-positions : goal.commit_rearranged-requires-clause-positions
commit_rearranged-requires-clause-positions g c = rw c.layout-layout.ensures (permutations_within (g.R.Relation.meaning c.args.relation.now) (g.S.Scheme.meaning c.args.scheme.now).width (mask_in c.args.mask) c.requires.formed)

pub commit_rearranged-requires-2-clause-permutations : goal.commit_rearranged-requires-2-clause-permutations
commit_rearranged-requires-2-clause-permutations g c = rw c.layout-layout.ensures (permutations_long (g.R.Relation.meaning c.args.relation.now) (g.S.Scheme.meaning c.args.scheme.now).width (mask_in c.args.mask) c.requires.formed)

pub commit_rearranged-requires-2-clause-positions : goal.commit_rearranged-requires-2-clause-positions
commit_rearranged-requires-2-clause-positions g c = rw c.layout-layout.ensures (permutations_within (g.R.Relation.meaning c.args.relation.now) (g.S.Scheme.meaning c.args.scheme.now).width (mask_in c.args.mask) c.requires.formed)
