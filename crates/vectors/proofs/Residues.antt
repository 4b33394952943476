-- The test that each entry is below q, and the fact that it decides.
use Rattle.std.proofs.Common.{◌≡◌, ℕ, zero, suc, ◌<◌, ◌&&◌, true, nat_lt, ltb, List, [], ◌∷◌, length, get_or, take, drop, ap, refl}
use Rattle.std.specs.List.{AllByRecursion, list_all}
use Rattle.std.proofs.ByRecursion.{All-get_or, All-take, All-drop}
use Rattle.std.proofs.lemmas.Bool.{and_from, and_parts, ltb-true, lt-ltb}
use Rattle.vectors.specs.Residues.{below}

pub below_is_all : (q : ℕ) (xs : List ℕ) → below q xs ≡ list_all (λ x. nat_lt x q) xs
below_is_all q [] = refl
below_is_all q (x ∷ xs) = ap (λ b. nat_lt x q && b) (below_is_all q xs)

pub all_from_below : (q : ℕ) (xs : List ℕ) → below q xs ≡ true → AllByRecursion (λ x. x < q) xs
all_from_below q [] h = tt
all_from_below q (x ∷ xs) h =
    let both = and_parts (ltb x q) (below q xs) h in
    (ltb-true x q both.0, all_from_below q xs both.1)

pub below_from_all : (q : ℕ) (xs : List ℕ) → AllByRecursion (λ x. x < q) xs → below q xs ≡ true
below_from_all q [] h = refl
below_from_all q (x ∷ xs) h = and_from (ltb x q) (below q xs) (lt-ltb x q h.0) (below_from_all q xs h.1)

pub get_or-below : (q : ℕ) (xs : List ℕ) (i : ℕ) → i < length xs → below q xs ≡ true → get_or xs i 0 < q
get_or-below q xs i l h = All-get_or (λ x. x < q) xs i 0 l (all_from_below q xs h)

-- an entry, or 0 past the end
pub get_or-residue : (q : ℕ) (xs : List ℕ) (i : ℕ) → 0 < q → AllByRecursion (λ x. x < q) xs → get_or xs i 0 < q
get_or-residue q [] i z h = z
get_or-residue q (x ∷ xs) zero z h = h.0
get_or-residue q (x ∷ xs) (suc i) z h = get_or-residue q xs i z h.1

pub below-part : (q a n : ℕ) (xs : List ℕ) → below q xs ≡ true → below q (take n (drop a xs)) ≡ true
below-part q a n xs h =
    below_from_all q (take n (drop a xs)) (All-take (λ x. x < q) n (drop a xs) (All-drop (λ x. x < q) a xs (all_from_below q xs h)))
