use Rattle.std.proofs.Common.{◌≡◌, ℕ, ◌+◌, ◌-◌, ◌*◌, ◌<◌, List, length, take, drop, ap, ◌∙◌, subst, ap₂, arith, rules}
use Rattle.vectors.specs.Layers.{layer}
use Rattle.vectors.specs.Permutations.{permuted}
use Rattle.vectors.specs.Residues.{below}
use Rattle.vectors.specs.Words.{bytes}
use Rattle.vectors.proofs.Layers.{row_at, length-layer}
use Rattle.vectors.proofs.Residues.{below-part}
use Rattle.commitment.specs.Meaning.{Fed}
use Rattle.openings.specs.Shown.{numbers_in}
use Rattle.openings.proofs.Reading.{length-numbers}
use Rattle.openings.proofs.Rows.{layers-fed-room, layers-fed_more, layers-fed_all}
use Rattle.openings.proofs.rearranged.feed_rearranged.Goals as goal

length-row : (N K start end : ℕ) (zs : List ℕ) (j : ℕ) → length zs ≡ K * N → j < K → start ≡ j * N → end ≡ j * N + N → length (take (end - start) (drop start zs)) ≡ N
length-row N K start end zs j size l s e = ap length (row_at N j start end zs s e) ∙ length-layer N K zs j size l

pub feed_layer-requires-clause-within : goal.feed_layer-requires-clause-within
feed_layer-requires-clause-within g c =
    let N : ℕ = c.args.layout.layer_len in
    let long = length-row N c.args.layout.layer_count _ _ c.args.layers.now c.loop-j.j c.requires.layers c.loop-j-test.true c.places-start.ensures.start c.places-start.ensures.end in
    ap₂ below long c.read_numbers.ensures ∙ below-part N _ _ (numbers_in c.args.permutations) c.requires.positions

pub feed_layer-requires-clause-room : goal.feed_layer-requires-clause-room
feed_layer-requires-clause-room g c =
    let N : ℕ = c.args.layout.layer_len in
    let K : ℕ = c.args.layout.layer_count in
    let ps : List ℕ = numbers_in c.args.permutations in
    let size = length-numbers c.args.permutations (K * N) c.requires.permutations in
    let long = length-row N K _ _ c.args.layers.now c.loop-j.j c.requires.layers c.loop-j-test.true c.places-start.ensures.start c.places-start.ensures.end in
    let room = layers-fed-room N K ps c.args.layers.now (g.S.Scheme.state c.args.scheme.now) size c.loop-j.j (g.S.Scheme.state c.loop-j.scheme) c.loop-j-test.true c.requires.room c.loop-j.invariant.1 in
    omega arith

pub loop-j-preserved : goal.loop-j-preserved
loop-j-preserved g c =
    let N : ℕ = c.args.layout.layer_len in
    let K : ℕ = c.args.layout.layer_count in
    let j : ℕ = c.loop-j.j in
    let ps : List ℕ = numbers_in c.args.permutations in
    let zs : List ℕ = c.args.layers.now in
    let size = length-numbers c.args.permutations (K * N) c.requires.permutations in
    let long : length c.loop-j.positions ≡ N = search rules in
    let read : c.read_numbers.new.out ≡ layer N j ps = c.read_numbers.ensures ∙ ap₂ (λ n start. take n (drop start ps)) long c.places-start.ensures.start in
    let state = g.S.Scheme.state c.loop-j.scheme in
    let state' = g.S.Scheme.state c.feed_layer.new.scheme in
    let fed = subst (λ l. Fed state (bytes l) state') (ap₂ permuted read (row_at N j _ _ zs c.places-start.ensures.start c.places-start.ensures.end)) c.feed_layer.ensures.fed in
    (c.feed_layer.ensures.kept ∙ c.loop-j.invariant.0, layers-fed_more N K ps zs (g.S.Scheme.state c.args.scheme.now) size j state state' c.loop-j-test.true c.loop-j.invariant.1 fed)

pub returns-clause-fed : goal.returns-clause-fed
returns-clause-fed g c =
    let size = length-numbers c.args.permutations (c.args.layout.layer_count * c.args.layout.layer_len) c.requires.permutations in
    layers-fed_all c.args.layout.layer_len c.args.layout.layer_count (numbers_in c.args.permutations) c.args.layers.now (g.S.Scheme.state c.args.scheme.now) size c.loop-j.j (g.S.Scheme.state c.loop-j.scheme)
    c.loop-j-test.false c.loop-j.invariant.1
