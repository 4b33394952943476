use Rattle.std.proofs.Common.{◌≡◌, ℕ, ◌+◌, ◌-◌, ◌*◌, List, length, take, sym, ap, ◌∙◌, ap₂, mul-le-mul_right, arith}
use borrow.Rule.Slice.PartMut.{put_mid}
use Rattle.std.proofs.lemmas.List.{take_all}
use Rattle.vectors.specs.Permutations.{permuted}
use Rattle.vectors.specs.Residues.{below}
use Rattle.vectors.specs.Layers.{permuted_layers}
use Rattle.vectors.proofs.Residues.{below-part}
use Rattle.vectors.proofs.Layers.{row_at, length-layer, take-layer_more}
use Rattle.vectors.proofs.Actions.{length-permuted-layer, length-permuted_layers}
use Rattle.vectors.proofs.permuting.permute_layers.Goals as goal

pub permute-requires : goal.permute-requires
permute-requires c =
    let j : ℕ = c.loop-j.j in
    let K : ℕ = c.args.layout.layer_count in
    let N : ℕ = c.args.layout.layer_len in
    let row : (zs : List ℕ) → _ = λ zs. row_at N j _ _ zs c.places-start.ensures.start c.places-start.ensures.end in
    let l = c.loop-j-test.true in
    let p = ap length (row c.args.positions.now) ∙ length-layer N K c.args.positions.now j c.requires.positions l in
    let z = ap length (row c.args.layers.now) ∙ length-layer N K c.args.layers.now j c.requires.layers l in
    let o = ap length (row c.loop-j.out) ∙ length-layer N K c.loop-j.out j (c.loop-j.auto.out ∙ c.requires.out) l in
    (ap₂ below z (row c.args.positions.now) ∙ below-part N (j * N) N c.args.positions.now c.requires.within, o ∙ sym p)

pub loop-j-preserved : goal.loop-j-preserved
loop-j-preserved c =
    let j : ℕ = c.loop-j.j in
    let K : ℕ = c.args.layout.layer_count in
    let N : ℕ = c.args.layout.layer_len in
    let ps : List ℕ = c.args.positions.now in
    let zs : List ℕ = c.args.layers.now in
    let places = c.places-start.ensures in
    let n : c.places-start.result.end - c.places-start.result.start ≡ N = omega (arith, places.start, places.end) in
    ap₂ (λ s n. take ((j + 1) * N) (put_mid s n c.loop-j.out c.permute.new.out)) places.start n
    ∙ take-layer_more permuted N K ps zs (length-permuted-layer N K ps zs c.requires.positions) j c.loop-j.out c.permute.new.out c.loop-j-test.true
    (c.loop-j.auto.out ∙ c.requires.out) c.loop-j.invariant
    (c.permute.ensures ∙ ap₂ permuted (row_at N j _ _ ps places.start places.end) (row_at N j _ _ zs places.start places.end))

pub returns : goal.returns
returns c =
    let K : ℕ = c.args.layout.layer_count in
    let N : ℕ = c.args.layout.layer_len in
    let ps : List ℕ = c.args.positions.now in
    let zs : List ℕ = c.args.layers.now in
    let m = mul-le-mul_right N c.loop-j-test.false in
    let n = length-permuted_layers N K ps zs c.requires.positions in
    let o = c.loop-j.auto.out ∙ c.requires.out in
    sym (take_all (c.loop-j.j * N) c.loop-j.out (omega arith)) ∙ c.loop-j.invariant ∙ take_all (c.loop-j.j * N) (permuted_layers N K ps zs) (omega arith)
