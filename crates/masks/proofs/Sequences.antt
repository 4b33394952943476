-- Drawing one thing after another, and writing what was drawn behind what is there.
use Rattle.std.proofs.Common.{◌≡◌, ℕ, suc, ◌+◌, ◌-◌, ◌*◌, ◌<◌, List, [], ◌∷◌, ◌++◌, length, take, drop, set, Some, None, Option, sym, refl, ap, ◌∙◌, subst, arith}
use borrow.Rule.Slice.PartMut.{put_mid}
use Rattle.std.specs.List.{swap}
use Rattle.std.proofs.lemmas.List.{append_assoc, take_more_set}
use Rattle.std.proofs.lemmas.Slice.{take-put_mid}
use Rattle.vectors.proofs.Layers.{row_within, row_at, length-layer}
use Rattle.masks.specs.Draw.{Drawn, then_draw, draw_below, draw_exchanges, draw_permutation, draw_permutations, draw_residues}
use Rattle.masks.specs.Sources.{draw_exchange}

-- these entries first, and then what is drawn
abbrev pub ahead : List ℕ → Option (Drawn (List ℕ)) → Option (Drawn (List ℕ))
ahead xs None = None
ahead xs (Some drawn) = Some (record { value = xs ++ drawn.value; rest = drawn.rest })

ahead_append : (xs ys : List ℕ) (drawn : Option (Drawn (List ℕ))) → ahead (xs ++ ys) drawn ≡ ahead xs (ahead ys drawn)
ahead_append xs ys None = refl
ahead_append xs ys (Some drawn) = ap (λ value. Some (record { value = value; rest = drawn.rest })) (append_assoc xs ys drawn.value)

-- a draw is written behind the first entries: one step, and both ends
pub ahead_more : (xs xs' ys : List ℕ) (drawn drawn' goal : Option (Drawn (List ℕ))) → xs' ≡ xs ++ ys → drawn ≡ ahead ys drawn' → ahead xs drawn ≡ goal → ahead xs' drawn' ≡ goal
ahead_more xs xs' ys drawn drawn' goal e d h = ap (λ xs. ahead xs drawn') e ∙ ahead_append xs ys drawn' ∙ ap (ahead xs) (sym d) ∙ h

pub ahead_none : (xs : List ℕ) (drawn goal : Option (Drawn (List ℕ))) → drawn ≡ None → ahead xs drawn ≡ goal → goal ≡ None
ahead_none xs drawn goal d h = sym h ∙ ap (ahead xs) d

exchanges_first : (i : ℕ) (p bytes : List ℕ) → draw_exchanges (suc i) p bytes ≡ then_draw (draw_exchange (suc i) p bytes) (draw_exchanges i)
exchanges_first i p bytes = go (draw_below (suc (suc i)) bytes)
  where
    go : (o : Option (Drawn ℕ)) → then_draw o (λ place rest. draw_exchanges i (swap p place (suc i)) rest)
        ≡ then_draw (then_draw o (λ place rest. Some (record { value = swap p place (suc i); rest = rest }))) (draw_exchanges i)
    go None = refl
    go (Some drawn) = refl

module _ (i : ℕ) (l : 0 < i) (p bytes : List ℕ) where
  exchanges_at : draw_exchanges i p bytes ≡ then_draw (draw_exchange i p bytes) (draw_exchanges (i - 1))
  exchanges_at =
      let e : suc (i - 1) ≡ i = omega arith in
      subst (λ n. draw_exchanges n p bytes ≡ then_draw (draw_exchange n p bytes) (draw_exchanges (i - 1))) e (exchanges_first (i - 1) p bytes)

  pub exchanges_more : (p' rest : List ℕ) → draw_exchange i p bytes ≡ Some (record { value = p'; rest = rest }) → draw_exchanges (i - 1) p' rest ≡ draw_exchanges i p bytes
  exchanges_more p' rest d = sym (exchanges_at ∙ ap (λ drawn. then_draw drawn (draw_exchanges (i - 1))) d)

  pub exchanges_none : draw_exchange i p bytes ≡ None → draw_exchanges i p bytes ≡ None
  exchanges_none d = exchanges_at ∙ ap (λ drawn. then_draw drawn (draw_exchanges (i - 1))) d

residues_first : (q n : ℕ) (bytes : List ℕ) → draw_residues q (suc n) bytes ≡ then_draw (draw_below q bytes) (λ first rest. ahead (first ∷ []) (draw_residues q n rest))
residues_first q n bytes = go (draw_below q bytes)
  where
    behind : (first : ℕ) (o : Option (Drawn (List ℕ))) → then_draw o (λ others rest. Some (record { value = first ∷ others; rest = rest })) ≡ ahead (first ∷ []) o
    behind first None = refl
    behind first (Some drawn) = refl

    go : (o : Option (Drawn ℕ)) → then_draw o (λ first rest. then_draw (draw_residues q n rest) (λ others rest. Some (record { value = first ∷ others; rest = rest })))
        ≡ then_draw o (λ first rest. ahead (first ∷ []) (draw_residues q n rest))
    go None = refl
    go (Some drawn) = behind drawn.value (draw_residues q n drawn.rest)

module _ (q n i : ℕ) (l : i < n) (bytes : List ℕ) where
  residues_at : draw_residues q (n - i) bytes ≡ then_draw (draw_below q bytes) (λ first rest. ahead (first ∷ []) (draw_residues q (n - (i + 1)) rest))
  residues_at =
      let e : suc (n - (i + 1)) ≡ n - i = omega arith in
      ap (λ m. draw_residues q m bytes) (sym e) ∙ residues_first q (n - (i + 1)) bytes

  pub residues_more : (value : ℕ) (xs rest : List ℕ) (goal : Option (Drawn (List ℕ))) → length xs ≡ n → draw_below q bytes ≡ Some (record { value = value; rest = rest })
      → ahead (take i xs) (draw_residues q (n - i) bytes) ≡ goal → ahead (take (i + 1) (set xs i value)) (draw_residues q (n - (i + 1)) rest) ≡ goal
  residues_more value xs rest goal e d h =
      ahead_more (take i xs) (take (i + 1) (set xs i value)) (value ∷ []) (draw_residues q (n - i) bytes) (draw_residues q (n - (i + 1)) rest) goal
      (take_more_set xs i value (omega arith)) (residues_at ∙ ap (λ o. then_draw o (λ first rest. ahead (first ∷ []) (draw_residues q (n - (i + 1)) rest))) d) h

  pub residues_none : (xs : List ℕ) (goal : Option (Drawn (List ℕ))) → draw_below q bytes ≡ None → ahead xs (draw_residues q (n - i) bytes) ≡ goal → goal ≡ None
  residues_none xs goal d h =
      ahead_none xs (draw_residues q (n - i) bytes) goal (residues_at ∙ ap (λ o. then_draw o (λ first rest. ahead (first ∷ []) (draw_residues q (n - (i + 1)) rest))) d) h

permutations-first : (N K : ℕ) (bytes : List ℕ) → draw_permutations N (suc K) bytes ≡ then_draw (draw_permutation N bytes) (λ first rest. ahead first (draw_permutations N K rest))
permutations-first N K bytes = go (draw_permutation N bytes)
  where
    behind : (first : List ℕ) (o : Option (Drawn (List ℕ))) → then_draw o (λ others rest. Some (record { value = first ++ others; rest = rest })) ≡ ahead first o
    behind first None = refl
    behind first (Some drawn) = refl

    go : (o : Option (Drawn (List ℕ))) → then_draw o (λ first rest. then_draw (draw_permutations N K rest) (λ others rest. Some (record { value = first ++ others; rest = rest })))
        ≡ then_draw o (λ first rest. ahead first (draw_permutations N K rest))
    go None = refl
    go (Some drawn) = behind drawn.value (draw_permutations N K drawn.rest)

module _ (N K j : ℕ) (l : j < K) (bytes : List ℕ) where
  permutations_at : draw_permutations N (K - j) bytes ≡ then_draw (draw_permutation N bytes) (λ first rest. ahead first (draw_permutations N (K - (j + 1)) rest))
  permutations_at =
      let e : suc (K - (j + 1)) ≡ K - j = omega arith in
      ap (λ m. draw_permutations N m bytes) (sym e) ∙ permutations-first N (K - (j + 1)) bytes

  -- the row of layer j in `ps`, as the checker reads it, lies from `start` to `end`
  module _ (ps : List ℕ) (long : length ps ≡ K * N) (start end : ℕ) (s : start ≡ j * N) (t : end ≡ j * N + N) where
    abbrev size : ℕ
    size = length (take (end - start) (drop start ps))

    row_drawn : (o : Option (Drawn (List ℕ))) → draw_permutation size bytes ≡ o → draw_permutations N (K - j) bytes ≡ then_draw o (λ first rest. ahead first (draw_permutations N (K - (j + 1)) rest))
    row_drawn o d =
        let n : size ≡ N = ap length (row_at N j start end ps s t) ∙ length-layer N K ps j long l in
        permutations_at ∙ ap (λ o. then_draw o (λ first rest. ahead first (draw_permutations N (K - (j + 1)) rest))) (ap (λ n. draw_permutation n bytes) (sym n) ∙ d)

    pub permutations_more : (part rest : List ℕ) (goal : Option (Drawn (List ℕ))) → length part ≡ size → draw_permutation size bytes ≡ Some (record { value = part; rest = rest })
        → ahead (take (j * N) ps) (draw_permutations N (K - j) bytes) ≡ goal → ahead (take ((j + 1) * N) (put_mid start (end - start) ps part)) (draw_permutations N (K - (j + 1)) rest) ≡ goal
    permutations_more part rest goal f d h =
        let within = row_within j K N l in
        let n : size ≡ N = ap length (row_at N j start end ps s t) ∙ length-layer N K ps j long l in
        let behind : (j + 1) * N ≡ start + length part = omega arith in
        ahead_more (take (j * N) ps) (take ((j + 1) * N) (put_mid start (end - start) ps part)) part (draw_permutations N (K - j) bytes) (draw_permutations N (K - (j + 1)) rest) goal
        (take-put_mid start (end - start) ps part ((j + 1) * N) behind (omega arith) ∙ ap (λ n. take n ps ++ part) s) (row_drawn _ d) h

    pub permutations_none : (xs : List ℕ) (goal : Option (Drawn (List ℕ))) → draw_permutation size bytes ≡ None → ahead xs (draw_permutations N (K - j) bytes) ≡ goal → goal ≡ None
    permutations_none xs goal d h = ahead_none xs (draw_permutations N (K - j) bytes) goal (row_drawn None d) h
