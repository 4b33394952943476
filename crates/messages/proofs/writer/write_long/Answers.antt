use Rattle.std.proofs.Common.{◌+◌, [], ◌∷◌, arith}
use Rattle.vectors.specs.Words.{bytes}
use Rattle.vectors.proofs.Words.{length_bytes}
use Rattle.messages.proofs.Writing.{placed_none, placed_more, wrote}
use Rattle.messages.proofs.writer.write_long.Goals as goal

pub returns : goal.returns
returns c =
    let p = length_bytes c.args.permutations.now in
    let l = length_bytes c.args.layers.now in
    let f = length_bytes c.args.free.now in
    wrote c.args.out.now (c.args.tag ∷ (c.args.tag + 1) ∷ (c.args.tag + 2) ∷ (c.args.tag + 3) ∷ (c.args.tag + 4) ∷ [])
    (bytes c.args.permutations.now ∷ bytes c.args.layers.now ∷ bytes c.args.free.now ∷ c.args.lower.now ∷ c.args.upper.now ∷ []) c.write_field.new.out c.write_field.result
    (placed_more c.write_field-layers_at.ensures.after
    (placed_more c.write_field-free_at.ensures.after
    (placed_more c.write_field-lower_at.ensures.after
    (placed_more c.write_field-upper_at.ensures.after
    (placed_more c.write_field.ensures.after (placed_none c.write_field.new.out c.write_field.result) (omega arith) (omega arith))
    (omega arith) (omega arith)) (omega arith) (omega arith)) (omega arith) (omega arith)) (omega arith) (omega arith))
