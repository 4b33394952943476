-- Every mask that is drawn is well-formed.
use Rattle.std.proofs.Common.{◌≡◌, ℕ, zero, suc, ◌+◌, ◌-◌, ◌*◌, ◌<◌, ◌≤◌, true, leb, List, [], ◌∷◌, ◌++◌, length, Some, None, Option, sym, refl, ap, ◌∙◌, subst, arith}
use Rattle.std.specs.List.{range_with_len, swap}
use Rattle.std.proofs.lemmas.Nat.{mod_below}
use Rattle.std.proofs.lemmas.List.{length-append, length-take-le, length-drop, take_at, drop_at}
use Rattle.std.proofs.lemmas.Bool.{cond_both, cond-true, leb-true}
use Rattle.vectors.specs.Layers.{Permutations, layer}
use Rattle.vectors.specs.Permutations.{Permutation}
use Rattle.vectors.specs.Residues.{Residues}
use Rattle.vectors.proofs.Counts.{permutation_length}
use Rattle.vectors.proofs.Layers.{layer-zero, layer-suc}
use Rattle.relation.specs.Meaning.{RelationMeaning, Layers, Free}
use Rattle.relation.specs.Laws.{RelationLaws}
use Rattle.masks.specs.Mask.{Mask, WellFormed, sized}
use Rattle.masks.specs.Draw.{Drawn, then_draw, accepts, draw_below, draw_exchanges, draw_permutation, draw_permutations, draw_residues, draw_bytes, draw_mask}
use Rattle.masks.specs.Promises.{runs_out, draw_fault, Filled}
use Rattle.masks.proofs.Exchanges.{permutation_exchanged}

-- P holds of what is drawn, if anything is, and no more bytes are left than there were
abbrev Gives : {A : Type 0} → (A → Type 0) → List ℕ → Option (Drawn A) → Type 0
Gives P bytes None = Unit {0}
Gives P bytes (Some drawn) = P drawn.value × (length drawn.rest ≤ length bytes)

gives_of_more : {A : Type 0} (P : A → Type 0) (rest bytes : List ℕ) (o : Option (Drawn A)) → length rest ≤ length bytes → Gives P rest o → Gives P bytes o
gives_of_more P rest bytes None l h = tt
gives_of_more P rest bytes (Some drawn) l h = (h.0, omega (arith, h.1))

gives_then : {A B : Type 0} (P : A → Type 0) (Q : B → Type 0) (bytes : List ℕ) (o : Option (Drawn A)) (next : A → List ℕ → Option (Drawn B))
    → Gives P bytes o → ((value : A) (rest : List ℕ) → P value → Gives Q rest (next value rest)) → Gives Q bytes (then_draw o next)
gives_then P Q bytes None next h k = tt
gives_then P Q bytes (Some drawn) next h k = gives_of_more Q drawn.rest bytes (next drawn.value drawn.rest) h.1 (k drawn.value drawn.rest h.0)

below_gives : (b : ℕ) (bytes : List ℕ) → 0 < b → Gives (λ n. n < b) bytes (draw_below b bytes)
below_gives b [] l = tt
below_gives b (high ∷ []) l = tt
below_gives b (high ∷ low ∷ rest) l =
    cond_both (accepts b (high * 256 + low)) _ _ (Gives (λ n. n < b) (high ∷ low ∷ rest)) (λ _. (mod_below (high * 256 + low) b l, omega arith))
    (λ _. gives_of_more (λ n. n < b) rest (high ∷ low ∷ rest) (draw_below b rest) (omega arith) (below_gives b rest l))

exchanges_give : (N i : ℕ) (p bytes : List ℕ) → i ≤ N - 1 → Permutation N p → Gives (Permutation N) bytes (draw_exchanges i p bytes)
exchanges_give N zero p bytes l h = (h, omega arith)
exchanges_give N (suc i) p bytes l h =
    gives_then (λ n. n < suc (suc i)) (Permutation N) bytes (draw_below (suc (suc i)) bytes) (λ place rest. draw_exchanges i (swap p place (suc i)) rest)
    (below_gives (suc (suc i)) bytes (omega arith))
    (λ place rest u. exchanges_give N i (swap p place (suc i)) rest (omega arith) (permutation_exchanged N p place (suc i) (omega arith) (omega arith) h))

permutation_gives : (N : ℕ) (bytes : List ℕ) → Gives (Permutation N) bytes (draw_permutation N bytes)
permutation_gives N bytes = exchanges_give N (N - 1) (range_with_len 0 N) bytes (omega arith) (λ x. refl)

permutations_none : (N : ℕ) → Permutations N 0 []
permutations_none N = record { size = omega arith; each = λ j l. absurd (omega arith) }

permutations-cons : (N K : ℕ) (first others : List ℕ) → Permutation N first → Permutations N K others → Permutations N (suc K) (first ++ others)
permutations-cons N K first others p ps = record { size = length-append first others ∙ omega (arith, n, ps.size); each = each }
  where
    n : length first ≡ N
    n = permutation_length N first p

    each : (j : ℕ) → j < suc K → Permutation N (layer N j (first ++ others))
    each zero l = subst (Permutation N) (sym (layer-zero N (first ++ others) ∙ take_at first others N n)) p
    each (suc j) l = subst (Permutation N) (sym (layer-suc N j (first ++ others) ∙ ap (layer N j) (drop_at first others N n))) (ps.each j (omega arith))

permutations_give : (N K : ℕ) (bytes : List ℕ) → Gives (Permutations N K) bytes (draw_permutations N K bytes)
permutations_give N zero bytes = (permutations_none N, omega arith)
permutations_give N (suc K) bytes =
    gives_then (Permutation N) (Permutations N (suc K)) bytes (draw_permutation N bytes) _ (permutation_gives N bytes)
    (λ first rest p.
    gives_then (Permutations N K) (Permutations N (suc K)) rest (draw_permutations N K rest) _ (permutations_give N K rest)
    (λ others rest' ps. (permutations-cons N K first others p ps, omega arith)))

residues_give : (q n : ℕ) (bytes : List ℕ) → 0 < q → Gives (Residues q n) bytes (draw_residues q n bytes)
residues_give q zero bytes l = ((refl, tt), omega arith)
residues_give q (suc n) bytes l =
    gives_then (λ x. x < q) (Residues q (suc n)) bytes (draw_below q bytes) _ (below_gives q bytes l)
    (λ first rest u.
    gives_then (Residues q n) (Residues q (suc n)) rest (draw_residues q n rest) _ (residues_give q n rest l)
    (λ others rest' h. ((ap suc h.0, (u, h.1)), omega arith)))

bytes_give : (n : ℕ) (bytes : List ℕ) → Gives (λ xs. length xs ≡ n) bytes (draw_bytes n bytes)
bytes_give n bytes =
    cond_both (leb n (length bytes)) _ _ (Gives (λ xs. length xs ≡ n) bytes)
    (λ e. (length-take-le n bytes (leb-true n (length bytes) e), omega (arith, length-drop n bytes))) (λ _. tt)

module _ {E : Type 0} (relation : RelationMeaning E) (laws : RelationLaws relation) (width : ℕ) where
  mask_gives : (bytes : List ℕ) → Gives (WellFormed relation width) bytes (draw_mask relation width bytes)
  mask_gives bytes =
      let q = relation.q in
      let l : 0 < q = omega (arith, laws.q_range.0) in
      gives_then (Permutations relation.layer_len relation.layer_count) (WellFormed relation width) bytes (draw_permutations relation.layer_len relation.layer_count bytes) _ (permutations_give relation.layer_len relation.layer_count bytes)
      (λ permutations rest p.
      gives_then (Layers relation) (WellFormed relation width) rest (draw_residues q (relation.layer_count * relation.layer_len) rest) _ (residues_give q (relation.layer_count * relation.layer_len) rest l)
      (λ layers rest' r.
      gives_then (Free relation) (WellFormed relation width) rest' (draw_residues q relation.free_len rest') _ (residues_give q relation.free_len rest' l)
      (λ free rest'' v.
      gives_then (λ xs. length xs ≡ 3 * width) (WellFormed relation width) rest'' (draw_bytes (3 * width) rest'') _ (bytes_give (3 * width) rest'')
      (λ coins rest''' c. (record { permutations = p; layers = r; free = v; coins = c }, omega arith)))))

  pub drawn_well_formed : (bytes : List ℕ) (drawn : Drawn Mask) → draw_mask relation width bytes ≡ Some drawn → WellFormed relation width drawn.value
  drawn_well_formed bytes drawn e = (subst (Gives (WellFormed relation width) bytes) e (mask_gives bytes)).0

  pub drawn_rest : (bytes : List ℕ) (drawn : Drawn Mask) → draw_mask relation width bytes ≡ Some drawn → length drawn.rest ≤ length bytes
  drawn_rest bytes drawn e = (subst (Gives (WellFormed relation width) bytes) e (mask_gives bytes)).1

  -- what draw promises where it does not refuse
  pub drawn_filled : (lent : Mask) (bytes : List ℕ) (drawn : Drawn Mask) (count : ℕ) → sized relation width lent ≡ true → draw_mask relation width bytes ≡ Some drawn
      → count + length drawn.rest ≡ length bytes
      → (draw_fault relation width lent bytes ≡ None) × (Filled (draw_mask relation width bytes) bytes drawn.value count × WellFormed relation width drawn.value)
  drawn_filled lent bytes drawn count s e n = (
    cond-true (sized relation width lent) _ _ s ∙ ap runs_out e,
    (subst (λ o. Filled o bytes drawn.value count) (sym e) (refl, n), drawn_well_formed bytes drawn e),
  )
