-- The positions of permutations are below the length of a layer.
use Rattle.std.proofs.Common.{◌≡◌, ℕ, ◌<◌, true, List}
use Rattle.std.proofs.ByRecursion.{All-from_get_or}
use Rattle.vectors.specs.Residues.{below}
use Rattle.vectors.specs.Layers.{layer, Permutations}
use Rattle.vectors.proofs.Counts.{permutation_below}
use Rattle.vectors.proofs.Residues.{below_from_all}
use Rattle.vectors.proofs.Layers.{residues_from_layers}

pub permutations-below : (N K : ℕ) (ps : List ℕ) → Permutations N K ps → below N ps ≡ true
permutations-below N K ps h =
    below_from_all N ps (residues_from_layers N N K ps h.size (λ j l. All-from_get_or (λ x. x < N) (layer N j ps) 0 (permutation_below N (layer N j ps) (h.each j l)))).1
