use Rattle.std.proofs.Common.{ℕ, ◌+◌, ◌*◌, List, length, refl, ap, ◌∙◌, ap₂, arith}
use Rattle.vectors.specs.Layers.{permuted_layers}
use Rattle.vectors.specs.Over.{over}
use Rattle.vectors.specs.Permutations.{permuted}
use Rattle.vectors.specs.Residues.{below}
use Rattle.vectors.specs.Words.{bytes}
use Rattle.vectors.proofs.Layers.{row_within, row_layer, row_at, length-layer}
use Rattle.vectors.proofs.Residues.{below-part}
use Rattle.messages.proofs.Writing.{over-layers_none, over-layers_more, over-layers_all, length-permuted-bytes, field-over}
use Rattle.messages.proofs.writer.write_permuted_field.Goals as goal

pub loop-j-init : goal.loop-j-init
loop-j-init c = over-layers_none c.args.layout.layer_len c.write_head.new.out (c.args.at + 3) (permuted_layers c.args.layout.layer_len c.args.layout.layer_count c.args.positions.now c.args.layers.now)

pub write_permuted-requires : goal.write_permuted-requires
write_permuted-requires c =
    let j : ℕ = c.loop-j.j in
    let K : ℕ = c.args.layout.layer_count in
    let N : ℕ = c.args.layout.layer_len in
    let ps : List ℕ = c.args.positions.now in
    let zs : List ℕ = c.args.layers.now in
    let l = c.loop-j-test.true in
    let places = c.places-start.ensures in
    let p = ap length (row_at N j _ _ ps places.start places.end) ∙ length-layer N K ps j c.requires.whole.0 l in
    let z = ap length (row_at N j _ _ zs places.start places.end) ∙ length-layer N K zs j c.requires.whole.1.0 l in
    let w = row_within j K N l in
    (omega arith, ap₂ below z (row_at N j _ _ ps places.start places.end) ∙ below-part N (j * N) N ps c.requires.whole.1.1)

pub loop-j-preserved : goal.loop-j-preserved
loop-j-preserved c =
    let j : ℕ = c.loop-j.j in
    let K : ℕ = c.args.layout.layer_count in
    let N : ℕ = c.args.layout.layer_len in
    let ps : List ℕ = c.args.positions.now in
    let zs : List ℕ = c.args.layers.now in
    let places = c.places-start.ensures in
    let written = rw (places.start, places.end) at c.write_permuted.ensures in
    over-layers_more N K ps zs j c.write_head.new.out c.loop-j.out c.write_permuted.new.out (c.args.at + 3) c.requires.whole.0 c.loop-j-test.true (omega arith) c.loop-j.invariant
    (written ∙ ap₂ (λ p b. over c.loop-j.out (c.args.at + 3 + 2 * (j * N)) (bytes (permuted p b))) (row_layer N j ps) (row_layer N j zs))

pub returns : goal.returns
returns c =
    let K : ℕ = c.args.layout.layer_count in
    let N : ℕ = c.args.layout.layer_len in
    let ps : List ℕ = c.args.positions.now in
    let zs : List ℕ = c.args.layers.now in
    record {
      value = refl;
      after =
          field-over c.args.out.now c.write_head.new.out c.loop-j.out c.args.at c.args.tag (2 * length ps) (bytes (permuted_layers N K ps zs)) (length-permuted-bytes N K ps zs c.requires.whole.0) c.requires.room.0
          c.write_head.ensures (over-layers_all N K ps zs c.loop-j.j c.write_head.new.out c.loop-j.out (c.args.at + 3) c.requires.whole.0 c.loop-j-test.false c.loop-j.invariant);
    }
