-- A flat list as layers of N entries each.
use Rattle.std.specs.Prelude.{◌≡◌, ℕ, zero, suc, ◌*◌, ◌<◌, Bool, cond, List, [], ◌++◌, length, take, drop, Some, None, Option}
use Rattle.vectors.specs.Permutations.{Permutation, permuted}

-- layer j, counted from 0
abbrev pub layer : ℕ → ℕ → List ℕ → List ℕ
layer N j zs = take N (drop (j * N) zs)

-- f on layer j of both lists, for each j below K, one after another
abbrev pub layerwise : (List ℕ → List ℕ → List ℕ) → ℕ → ℕ → List ℕ → List ℕ → List ℕ
layerwise f N zero ps zs = []
layerwise f N (suc K) ps zs = f (take N ps) (take N zs) ++ layerwise f N K (drop N ps) (drop N zs)

-- permutation j moves layer j
abbrev pub permuted_layers : ℕ → ℕ → List ℕ → List ℕ → List ℕ
permuted_layers N K ps zs = layerwise permuted N K ps zs

-- K permutations of 0 to N - 1, one after another
pub record Permutations (N K : ℕ) (ps : List ℕ) : Type 0 where
  pub size : length ps ≡ K * N
  pub each : (j : ℕ) → j < K → Permutation N (layer N j ps)

-- the first layer, of `left` layers from j on, to which the test says no
abbrev pub first_failing : (ℕ → List ℕ → Bool) → ℕ → ℕ → ℕ → List ℕ → Option ℕ
first_failing test N j zero zs = None
first_failing test N j (suc left) zs = cond (test j (layer N j zs)) (first_failing test N (suc j) left zs) (Some j)
