use Rattle.std.proofs.Common.{◌*◌}
use Rattle.vectors.proofs.Sums.{plus_comm, plus_residues}
use Rattle.moves.proofs.Completeness.{modulus_positive}
use Rattle.console_moves.proofs.Asked.{addable, key_from_split, layers_from_split}
use Rattle.console_moves.proofs.committing.write_message.Goals as goal

pub add-requires : goal.add-requires
add-requires g c =
    let relation = g.R.Relation.meaning c.args.relation.now in
    let own = layers_from_split relation (g.R.Relation.laws c.args.relation.now) c.args.key.now _ _ c.in_ok-split.ensures.0 in
    rw (c.in_ok-split.ensures.1.0, c.modulus.ensures)
    (addable relation.q (relation.layer_count * relation.layer_len) (relation.split_layers c.args.key.now) c.args.mask.layers.now own c.requires.formed.layers)

pub commit_masked-requires-clause-masked : goal.commit_masked-requires-clause-masked
commit_masked-requires-clause-masked g c =
    let relation = g.R.Relation.meaning c.args.relation.now in
    let laws = g.R.Relation.laws c.args.relation.now in
    let own = layers_from_split relation laws c.args.key.now _ _ c.in_ok-split.ensures.0 in
    rw (c.add.ensures, c.in_ok-split.ensures.1.0, c.modulus.ensures)
    (plus_residues relation.q (relation.layer_count * relation.layer_len) (relation.split_layers c.args.key.now) c.args.mask.layers.now (modulus_positive relation laws) own c.requires.formed.layers)

pub returns-clause-outcome : goal.returns-clause-outcome
returns-clause-outcome g c =
    let relation = g.R.Relation.meaning c.args.relation.now in
    let swapped = plus_comm relation.q (relation.split_layers c.args.key.now) c.args.mask.layers.now in
    let wrote = rw (c.add.ensures, c.in_ok-split.ensures.1.0, c.modulus.ensures, swapped) at c.commit_masked.ensures.wrote in
    (key_from_split relation c.args.key.now _ _ c.in_ok-split.ensures.0, (wrote, c.commit_masked.ensures.fresh))
