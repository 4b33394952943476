-- Permutations of 0 to N - 1, and how they act on a list.
use Rattle.std.specs.Prelude.{ℕ, zero, suc, Bool, true, ◌&&◌, List, map, length, ◌==◌, slice_index}
use Rattle.std.specs.List.{range_with_len}
use Rattle.vectors.specs.Counts.{Rearranged, count}

-- lists each of 0 to N - 1 once
abbrev pub Permutation : ℕ → List ℕ → Type 0
Permutation N p = Rearranged p (range_with_len 0 N)

-- P(b) holds b[P(i)] at place i
abbrev pub permuted : List ℕ → List ℕ → List ℕ
permuted p b = map (λ i. slice_index b i) p

-- whether each of the first n numbers stands in the list once
abbrev pub each_once : ℕ → List ℕ → Bool
each_once zero p = true
each_once (suc n) p = each_once n p && count n p == 1

-- whether a list is a permutation of 0 to N - 1
abbrev pub permutes : ℕ → List ℕ → Bool
permutes N p = length p == N && each_once N p
