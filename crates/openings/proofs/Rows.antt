-- Layers that are moved and fed one by one.
use Rattle.std.proofs.Common.{◌≡◌, ℕ, ◌+◌, ◌*◌, ◌<◌, ◌≤◌, List, ◌++◌, length, take, sym, refl, ap, ◌∙◌, subst, mul-le-mul_right, zero-mul, arith, take-add}
use Rattle.std.proofs.lemmas.List.{append_assoc, length-append, take_all, length-take-le}
use Rattle.vectors.specs.Words.{bytes}
use Rattle.vectors.specs.Permutations.{permuted}
use Rattle.vectors.specs.Layers.{layer, permuted_layers}
use Rattle.vectors.proofs.Words.{length_bytes, bytes-append}
use Rattle.vectors.proofs.Layers.{row_within}
use Rattle.vectors.proofs.Actions.{length-permuted_layers, layer-permuted_layers}
use Rattle.commitment.specs.Meaning.{SchemeState, Fed}

fed-fed : (a b c : SchemeState) (xs ys : List ℕ) → Fed a xs b → Fed b ys c → Fed a (xs ++ ys) c
fed-fed a b c xs ys f g = record {
  values = λ rest. g.values rest ∙ f.values (ys ++ rest) ∙ ap a.values (sym (append_assoc xs ys rest));
  room = omega (arith, f.room, g.room, length-append xs ys);
}

module _ (N K : ℕ) (ps zs : List ℕ) (before : SchemeState) where
  abbrev moved : List ℕ
  moved = permuted_layers N K ps zs

  -- the first j layers have been fed
  abbrev pub LayersFed : ℕ → SchemeState → Type 0
  LayersFed j now = Fed before (bytes (take (j * N) moved)) now

  pub layers-fed_none : LayersFed 0 before
  layers-fed_none = subst (λ n. Fed before (bytes (take n moved)) before) (sym (zero-mul N)) (record { values = λ rest. refl; room = omega arith })

  module _ (size : length ps ≡ K * N) where
    pub layers-fed-room : (j : ℕ) (now : SchemeState) → j < K → 2 * (K * N) ≤ before.room → LayersFed j now → 2 * N ≤ now.room
    layers-fed-room j now l fits f =
        let w = row_within j K N l in
        let m = length-permuted_layers N K ps zs size in
        let t = length-take-le (j * N) moved (omega arith) in
        omega (arith, f.room, length_bytes (take (j * N) moved))

    pub layers-fed_more : (j : ℕ) (now after : SchemeState) → j < K → LayersFed j now → Fed now (bytes (permuted (layer N j ps) (layer N j zs))) after → LayersFed (j + 1) after
    layers-fed_more j now after l f g =
        let here = fed-fed before now after (bytes (take (j * N) moved)) (bytes (permuted (layer N j ps) (layer N j zs))) f g in
        let n : j * N + N ≡ (j + 1) * N = omega arith in
        let e : bytes (take (j * N) moved) ++ bytes (permuted (layer N j ps) (layer N j zs)) ≡ bytes (take ((j + 1) * N) moved) =
        sym (bytes-append (take (j * N) moved) (permuted (layer N j ps) (layer N j zs)))
        ∙ ap (λ l. bytes (take (j * N) moved ++ l)) (sym (layer-permuted_layers N K ps zs size j l))
        ∙ ap bytes (sym (take-add (j * N) N moved))
        ∙ ap (λ k. bytes (take k moved)) n in
        subst (λ l. Fed before l after) e here

    pub layers-fed_all : (j : ℕ) (now : SchemeState) → K ≤ j → LayersFed j now → Fed before (bytes moved) now
    layers-fed_all j now l f =
        let m = mul-le-mul_right N l in
        let k = length-permuted_layers N K ps zs size in
        subst (λ l. Fed before (bytes l) now) (take_all (j * N) moved (omega arith)) f
