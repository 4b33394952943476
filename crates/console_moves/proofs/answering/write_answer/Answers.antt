use Rattle.std.proofs.Common.{◌≡◌, ◌*◌, length, sym, ap, ap₂, ◌∙◌, subst, arith}
use Rattle.vectors.specs.Residues.{plus}
use Rattle.vectors.proofs.Sums.{plus_comm}
use Rattle.masks.specs.Held.{mask_in}
use Rattle.messages.specs.declared.challenge.Challenge.{Challenge}
use Rattle.messages.specs.Contents.{answer_written}
use Rattle.messages.specs.Writing.{Wrote}
use Rattle.moves.specs.Moves.{answer}
use Rattle.console_moves.proofs.Asked.{addable, key_from_split, layers_from_split, free_from_split, few, permutations_within, string_long, long_fits}
use Rattle.console_moves.proofs.answering.write_answer.Goals as goal

pub write_first-size-requires-clause-short : goal.write_first-size-requires-clause-short
write_first-size-requires-clause-short g c =
    let relation = g.R.Relation.meaning c.args.relation.now in
    let laws = g.R.Relation.laws c.args.relation.now in
    let scheme = g.S.Scheme.meaning c.args.scheme.now in
    let high = (g.S.Scheme.laws c.args.scheme.now).width_high in
    let size = c.requires.formed.permutations.size in
    let bound = few relation laws in
    let second : length c.coin_strings.result.1.now ≡ scheme.width = rw (c.coin_strings.ensures.second, c.width.ensures) (string_long relation scheme.width (mask_in c.args.mask) c.requires.formed 1 (omega arith)) in
    let third : length c.coin_strings.result.2.now ≡ scheme.width = rw (c.coin_strings.ensures.third, c.width.ensures) (string_long relation scheme.width (mask_in c.args.mask) c.requires.formed 2 (omega arith)) in
    (omega arith, (omega arith, omega arith))

pub write_first-size-requires-clause-whole : goal.write_first-size-requires-clause-whole
write_first-size-requires-clause-whole g c =
    let relation = g.R.Relation.meaning c.args.relation.now in
    let laws = g.R.Relation.laws c.args.relation.now in
    let formed = c.requires.formed in
    let own = layers_from_split relation laws c.args.key.now _ _ c.in_ok-split.ensures.0 in
    rw (c.in_ok-split.ensures.1.0, c.layout-layout.ensures)
    (formed.permutations.size, (own.0, (formed.layers.0, permutations_within relation (g.S.Scheme.meaning c.args.scheme.now).width (mask_in c.args.mask) formed)))

pub add-requires : goal.add-requires
add-requires g c =
    let relation = g.R.Relation.meaning c.args.relation.now in
    let own = layers_from_split relation (g.R.Relation.laws c.args.relation.now) c.args.key.now _ _ c.in_ok-split.ensures.0 in
    rw (c.in_ok-split.ensures.1.0, c.modulus.ensures)
    (addable relation.q (relation.layer_count * relation.layer_len) (relation.split_layers c.args.key.now) c.args.mask.layers.now own c.requires.formed.layers)

pub add-requires-in-Two : goal.add-requires-in-Two
add-requires-in-Two g c =
    let relation = g.R.Relation.meaning c.args.relation.now in
    let own = free_from_split relation (g.R.Relation.laws c.args.relation.now) c.args.key.now _ _ c.in_ok-split.ensures.0 in
    rw (c.in_ok-split.ensures.1.1, c.modulus-in-Two.ensures)
    (addable relation.q relation.free_len (relation.split_free c.args.key.now) c.args.mask.free.now own c.requires.formed.free)

pub write_second-size-requires : goal.write_second-size-requires
write_second-size-requires g c =
    let relation = g.R.Relation.meaning c.args.relation.now in
    let laws = g.R.Relation.laws c.args.relation.now in
    let scheme = g.S.Scheme.meaning c.args.scheme.now in
    let formed = c.requires.formed in
    let layers = layers_from_split relation laws c.args.key.now _ _ c.in_ok-split.ensures.0 in
    let free = free_from_split relation laws c.args.key.now _ _ c.in_ok-split.ensures.0 in
    long_fits relation laws scheme (g.S.Scheme.laws c.args.scheme.now) _ _ _ _ _ _ formed.permutations.size
    (omega (arith, ap length c.in_ok-split.ensures.1.0, layers.0)) (omega (arith, ap length c.in_ok-split.ensures.1.1, free.0))
    (rw (c.coin_strings.ensures.first, c.width.ensures) (string_long relation scheme.width (mask_in c.args.mask) formed 0 (omega arith)))
    (rw (c.coin_strings.ensures.third, c.width.ensures) (string_long relation scheme.width (mask_in c.args.mask) formed 2 (omega arith)))
    (rw c.in-Two.is at c.requires.out_long)

pub write_third-size-requires : goal.write_third-size-requires
write_third-size-requires g c =
    let relation = g.R.Relation.meaning c.args.relation.now in
    let laws = g.R.Relation.laws c.args.relation.now in
    let scheme = g.S.Scheme.meaning c.args.scheme.now in
    let formed = c.requires.formed in
    long_fits relation laws scheme (g.S.Scheme.laws c.args.scheme.now) _ _ _ _ _ _ formed.permutations.size formed.layers.0 formed.free.0
    (rw (c.coin_strings.ensures.first, c.width.ensures) (string_long relation scheme.width (mask_in c.args.mask) formed 0 (omega arith)))
    (rw (c.coin_strings.ensures.second, c.width.ensures) (string_long relation scheme.width (mask_in c.args.mask) formed 1 (omega arith)))
    (rw c.in-Three.is at c.requires.out_long)

pub returns-in-Two : goal.returns-in-Two
returns-in-Two g c =
    let relation = g.R.Relation.meaning c.args.relation.now in
    let key = c.args.key.now in
    let masked : c.add.new.sum ≡ plus relation.q c.args.mask.layers.now (relation.split_layers key) =
    c.add.ensures ∙ ap₂ (λ q part. plus q part c.args.mask.layers.now) c.modulus.ensures c.in_ok-split.ensures.1.0 ∙ plus_comm relation.q (relation.split_layers key) c.args.mask.layers.now in
    let masked_free : c.add-in-Two.new.sum ≡ plus relation.q c.args.mask.free.now (relation.split_free key) =
    c.add-in-Two.ensures ∙ ap₂ (λ q part. plus q part c.args.mask.free.now) c.modulus-in-Two.ensures c.in_ok-split.ensures.1.1 ∙ plus_comm relation.q (relation.split_free key) c.args.mask.free.now in
    let wrote = rw (masked, masked_free, c.coin_strings.ensures.first, c.coin_strings.ensures.third, c.width.ensures) at c.write_second-size.ensures in
    let written = λ (asked : Challenge). Wrote c.args.out.now (answer_written (answer relation (g.S.Scheme.meaning c.args.scheme.now) key (mask_in c.args.mask) asked)) c.write_second-size.new.out c.write_second-size.result in
    (key_from_split relation key _ _ c.in_ok-split.ensures.0, subst written (sym c.in-Two.is) wrote)
