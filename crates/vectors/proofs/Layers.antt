-- Layers of a flat list, and what acts on them one by one.
use Rattle.std.proofs.Common.{◌≡◌, ℕ, zero, suc, ◌+◌, ◌-◌, ◌*◌, ◌<◌, ◌≤◌, min, List, ◌++◌, length, take, drop, sym, ap, ◌∙◌, subst, ap₂, not-suc-le-zero, mul-le-mul_right, zero-mul, arith, take-add}
use borrow.Rule.Slice.PartMut.{put_mid}
use Rattle.std.specs.List.{AllByRecursion}
use Rattle.std.proofs.ByRecursion.{All-take, All-drop, All-append}
use Rattle.std.proofs.lemmas.List.{length-append, length-take, length-drop, take_at, drop_at, drop-drop, take-append-drop, nil_from_length}
use Rattle.std.proofs.lemmas.Slice.{take-put_mid}
use Rattle.vectors.specs.Residues.{plus, Residues}
use Rattle.vectors.specs.Layers.{layer, layerwise}
use Rattle.vectors.proofs.Sums.{take-plus, drop-plus}

-- a row of N entries ends within K rows
pub row_within : (j K N : ℕ) → j < K → j * N + N ≤ K * N
row_within j K N h = omega (arith, mul-le-mul_right N h)

-- layer j as the checker reads `&zs[j * N..j * N + N]`
pub row_layer : (N j : ℕ) (zs : List ℕ) → take (j * N + N - j * N) (drop (j * N) zs) ≡ layer N j zs
row_layer N j zs =
    let n : j * N + N - j * N ≡ N = omega arith in
    ap (λ n. take n (drop (j * N) zs)) n

-- layer j as the checker reads `&zs[start..end]` at its places
pub row_at : (N j start end : ℕ) (zs : List ℕ) → start ≡ j * N → end ≡ j * N + N → take (end - start) (drop start zs) ≡ layer N j zs
row_at N j start end zs s e = rw (s, e) (row_layer N j zs)

pub layer-zero : (N : ℕ) (zs : List ℕ) → layer N 0 zs ≡ take N zs
layer-zero N zs = ap (λ n. take N (drop n zs)) (zero-mul N)

pub layer-suc : (N j : ℕ) (zs : List ℕ) → layer N (suc j) zs ≡ layer N j (drop N zs)
layer-suc N j zs =
    let e : suc j * N ≡ N + j * N = omega arith in
    ap (take N) (ap (λ n. drop n zs) e ∙ sym (drop-drop (j * N) N zs))

pub length-layer : (N K : ℕ) (zs : List ℕ) (j : ℕ) → length zs ≡ K * N → j < K → length (layer N j zs) ≡ N
length-layer N K zs j e h =
    length-take N (drop (j * N) zs) ∙ ap (min N) (length-drop (j * N) zs) ∙ omega (arith, row_within j K N h)

pub layer-plus : (q N j : ℕ) (xs ys : List ℕ) → layer N j (plus q xs ys) ≡ plus q (layer N j xs) (layer N j ys)
layer-plus q N j xs ys = ap (take N) (drop-plus q (j * N) xs ys) ∙ take-plus q N (drop (j * N) xs) (drop (j * N) ys)

pub layer_residues : (q N K : ℕ) (zs : List ℕ) (j : ℕ) → Residues q (K * N) zs → j < K → Residues q N (layer N j zs)
layer_residues q N K zs j h l = (length-layer N K zs j h.0 l, All-take (λ x. x < q) N (drop (j * N) zs) (All-drop (λ x. x < q) (j * N) zs h.1))

pub same_from_layers : (N K : ℕ) (xs ys : List ℕ) → length xs ≡ K * N → length ys ≡ K * N → ((j : ℕ) → j < K → layer N j xs ≡ layer N j ys) → xs ≡ ys
same_from_layers N zero xs ys e d h = nil_from_length xs (omega arith) ∙ sym (nil_from_length ys (omega arith))
same_from_layers N (suc K) xs ys e d h =
    sym (take-append-drop N xs)
    ∙ ap₂ ◌++◌ (sym (layer-zero N xs) ∙ h 0 (omega arith) ∙ layer-zero N ys)
    (same_from_layers N K (drop N xs) (drop N ys) (length-drop N xs ∙ omega arith) (length-drop N ys ∙ omega arith)
    (λ j l. sym (layer-suc N j xs) ∙ h (suc j) (omega arith) ∙ layer-suc N j ys))
    ∙ take-append-drop N ys

pub residues_from_layers : (q N K : ℕ) (zs : List ℕ) → length zs ≡ K * N → ((j : ℕ) → j < K → AllByRecursion (λ x. x < q) (layer N j zs)) → Residues q (K * N) zs
residues_from_layers q N K zs e h = (e, go K zs e h)
  where
    go : (K : ℕ) (zs : List ℕ) → length zs ≡ K * N → ((j : ℕ) → j < K → AllByRecursion (λ x. x < q) (layer N j zs)) → AllByRecursion (λ x. x < q) zs
    go zero zs e h = subst (AllByRecursion (λ x. x < q)) (sym (nil_from_length zs (omega arith))) tt
    go (suc K) zs e h =
        subst (AllByRecursion (λ x. x < q)) (take-append-drop N zs)
        (All-append (λ x. x < q) (take N zs) (drop N zs) (subst (AllByRecursion (λ x. x < q)) (layer-zero N zs) (h 0 (omega arith)))
        (go K (drop N zs) (length-drop N zs ∙ omega arith) (λ j l. subst (AllByRecursion (λ x. x < q)) (layer-suc N j zs) (h (suc j) (omega arith)))))

module _ (f : List ℕ → List ℕ → List ℕ) (N : ℕ) where
  -- f gives N entries at each layer
  abbrev Long : ℕ → List ℕ → List ℕ → Type 0
  Long K ps zs = (j : ℕ) → j < K → length (f (layer N j ps) (layer N j zs)) ≡ N

  long_rest : (K : ℕ) (ps zs : List ℕ) → Long (suc K) ps zs → Long K (drop N ps) (drop N zs)
  long_rest K ps zs h j l = ap₂ (λ a b. length (f a b)) (sym (layer-suc N j ps)) (sym (layer-suc N j zs)) ∙ h (suc j) (omega arith)

  long_first : (K : ℕ) (ps zs : List ℕ) → Long (suc K) ps zs → length (f (take N ps) (take N zs)) ≡ N
  long_first K ps zs h = ap₂ (λ a b. length (f a b)) (sym (layer-zero N ps)) (sym (layer-zero N zs)) ∙ h 0 (omega arith)

  pub length-layerwise : (K : ℕ) (ps zs : List ℕ) → ((j : ℕ) → j < K → length (f (layer N j ps) (layer N j zs)) ≡ N) → length (layerwise f N K ps zs) ≡ K * N
  length-layerwise zero ps zs h = sym (zero-mul N)
  length-layerwise (suc K) ps zs h =
      length-append (f (take N ps) (take N zs)) (layerwise f N K (drop N ps) (drop N zs))
      ∙ omega (arith, long_first K ps zs h, length-layerwise K (drop N ps) (drop N zs) (long_rest K ps zs h))

  pub layer-layerwise : (K : ℕ) (ps zs : List ℕ) → ((j : ℕ) → j < K → length (f (layer N j ps) (layer N j zs)) ≡ N)
      → (j : ℕ) → j < K → layer N j (layerwise f N K ps zs) ≡ f (layer N j ps) (layer N j zs)
  layer-layerwise zero ps zs h j l = absurd (not-suc-le-zero l)
  layer-layerwise (suc K) ps zs h zero l =
      layer-zero N (f (take N ps) (take N zs) ++ layerwise f N K (drop N ps) (drop N zs))
      ∙ take_at (f (take N ps) (take N zs)) (layerwise f N K (drop N ps) (drop N zs)) N (long_first K ps zs h)
      ∙ ap₂ f (sym (layer-zero N ps)) (sym (layer-zero N zs))
  layer-layerwise (suc K) ps zs h (suc j) l =
      layer-suc N j (f (take N ps) (take N zs) ++ layerwise f N K (drop N ps) (drop N zs))
      ∙ ap (layer N j) (drop_at (f (take N ps) (take N zs)) (layerwise f N K (drop N ps) (drop N zs)) N (long_first K ps zs h))
      ∙ layer-layerwise K (drop N ps) (drop N zs) (long_rest K ps zs h) j (omega arith)
      ∙ ap₂ f (sym (layer-suc N j ps)) (sym (layer-suc N j zs))

  -- one layer more of a list xs, whose layers are written one by one
  pub take-layer_more : (K : ℕ) (ps zs : List ℕ) → ((j : ℕ) → j < K → length (f (layer N j ps) (layer N j zs)) ≡ N)
      → (j : ℕ) (xs part : List ℕ) → j < K → length xs ≡ K * N → take (j * N) xs ≡ take (j * N) (layerwise f N K ps zs) → part ≡ f (layer N j ps) (layer N j zs)
      → take ((j + 1) * N) (put_mid (j * N) N xs part) ≡ take ((j + 1) * N) (layerwise f N K ps zs)
  take-layer_more K ps zs h j xs part l n e p =
      let w = row_within j K N l in
      let m : (j + 1) * N ≡ j * N + N = omega arith in
      let q : part ≡ layer N j (layerwise f N K ps zs) = p ∙ sym (layer-layerwise K ps zs h j l) in
      take-put_mid (j * N) N xs part ((j + 1) * N) (omega (arith, ap length p, h j l)) (omega arith)
      ∙ ap₂ ◌++◌ e q ∙ sym (take-add (j * N) N (layerwise f N K ps zs)) ∙ ap (λ i. take i (layerwise f N K ps zs)) (sym m)
