-- How random bytes become a mask.
use Rattle.std.specs.Prelude.{ℕ, zero, suc, ◌+◌, ◌-◌, ◌*◌, ◌/◌, ◌%◌, Bool, cond, List, [], ◌∷◌, ◌++◌, length, take, drop, Some, None, Option, nat_le, nat_lt}
use Rattle.std.specs.List.{range_with_len, swap}
use Rattle.relation.specs.Meaning.{RelationMeaning}
use Rattle.masks.specs.Mask.{Mask}

-- what was drawn, and the bytes that are left
pub record Drawn (A : Type 0) : Type 0 where
  pub value : A
  pub rest : List ℕ

-- draws one thing after another; none where the bytes run out
abbrev pub then_draw : {A B : Type 0} → Option (Drawn A) → (A → List ℕ → Option (Drawn B)) → Option (Drawn B)
then_draw None next = None
then_draw (Some drawn) next = next drawn.value drawn.rest

-- the words that give a number below b: those below b times the whole part of 65536/b
abbrev pub accepts : ℕ → ℕ → Bool
accepts b word = nat_lt word (b * (65536 / b))

-- a number below b: the first accepted word, high byte first, modulo b
abbrev pub draw_below : ℕ → List ℕ → Option (Drawn ℕ)
draw_below b [] = None
draw_below b (high ∷ []) = None
draw_below b (high ∷ low ∷ rest) = cond (accepts b (high * 256 + low)) (Some (record { value = (high * 256 + low) % b; rest = rest })) (draw_below b rest)

-- for each i from the given one down to 1, a place below i + 1 is drawn and exchanged with place i
abbrev pub draw_exchanges : ℕ → List ℕ → List ℕ → Option (Drawn (List ℕ))
draw_exchanges zero p bytes = Some (record { value = p; rest = bytes })
draw_exchanges (suc i) p bytes = then_draw (draw_below (suc (suc i)) bytes) (λ place rest. draw_exchanges i (swap p place (suc i)) rest)

-- a permutation starts as 0 to N - 1
abbrev pub draw_permutation : ℕ → List ℕ → Option (Drawn (List ℕ))
draw_permutation N bytes = draw_exchanges (N - 1) (range_with_len 0 N) bytes

abbrev pub draw_permutations : ℕ → ℕ → List ℕ → Option (Drawn (List ℕ))
draw_permutations N zero bytes = Some (record { value = []; rest = bytes })
draw_permutations N (suc K) bytes =
    then_draw (draw_permutation N bytes) (λ first rest. then_draw (draw_permutations N K rest) (λ others rest'. Some (record { value = first ++ others; rest = rest' })))

-- n residues below q
abbrev pub draw_residues : ℕ → ℕ → List ℕ → Option (Drawn (List ℕ))
draw_residues q zero bytes = Some (record { value = []; rest = bytes })
draw_residues q (suc n) bytes = then_draw (draw_below q bytes) (λ first rest. then_draw (draw_residues q n rest) (λ others rest'. Some (record { value = first ∷ others; rest = rest' })))

-- n bytes as they come
abbrev pub draw_bytes : ℕ → List ℕ → Option (Drawn (List ℕ))
draw_bytes n bytes = cond (nat_le n (length bytes)) (Some (record { value = take n bytes; rest = drop n bytes })) None

-- the permutations, then R, then v, then the coins
abbrev pub draw_mask : {E : Type 0} → RelationMeaning E → ℕ → List ℕ → Option (Drawn Mask)
draw_mask relation width bytes =
    then_draw (draw_permutations relation.layer_len relation.layer_count bytes) (λ permutations rest.
    then_draw (draw_residues relation.q (relation.layer_count * relation.layer_len) rest) (λ layers rest'.
    then_draw (draw_residues relation.q relation.free_len rest') (λ free rest''.
    then_draw (draw_bytes (3 * width) rest'') (λ coins rest'''.
    Some (record { value = record { permutations = permutations; layers = layers; free = free; coins = coins }; rest = rest''' })))))
