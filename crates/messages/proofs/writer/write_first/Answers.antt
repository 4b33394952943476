use Rattle.std.proofs.Common.{ℕ, List, [], ◌∷◌, arith}
use Rattle.vectors.specs.Layers.{permuted_layers}
use Rattle.vectors.specs.Words.{bytes}
use Rattle.messages.proofs.Writing.{length-permuted-bytes, placed_none, placed_more, wrote}
use Rattle.messages.proofs.writer.write_first.Goals as goal

pub returns : goal.returns
returns c =
    let N : ℕ = c.args.layout.layer_len in
    let K : ℕ = c.args.layout.layer_count in
    let ps : List ℕ = c.args.positions.now in
    let e = length-permuted-bytes N K ps c.args.key_layers.now c.requires.whole.0 in
    let r = length-permuted-bytes N K ps c.args.mask_layers.now c.requires.whole.0 in
    wrote c.args.out.now (11 ∷ 12 ∷ 13 ∷ 14 ∷ [])
    (bytes (permuted_layers N K ps c.args.key_layers.now) ∷ bytes (permuted_layers N K ps c.args.mask_layers.now) ∷ c.args.coins_2.now ∷ c.args.coins_3.now ∷ []) c.write_field.new.out c.write_field.result
    (placed_more c.write_permuted_field-mask_at.ensures.after
    (placed_more c.write_permuted_field-coins_2_at.ensures.after
    (placed_more c.write_field-coins_3_at.ensures.after
    (placed_more c.write_field.ensures.after (placed_none c.write_field.new.out c.write_field.result) (omega arith) (omega arith))
    (omega arith) (omega arith)) (omega arith) (omega arith)) (omega arith) (omega arith))
