-- Lists of zeros and ones, with a stated number of ones.
use Rattle.std.proofs.Common.{◌≡◌, ℕ, ◌+◌, ◌<◌, true, ◌&&◌, eqb, List, [], ◌∷◌, length, sym, ◌∙◌, ap₂, arith}
use Rattle.std.specs.List.{AllByRecursion}
use Rattle.std.proofs.ByRecursion.{All-weaker}
use Rattle.std.proofs.lemmas.Bool.{and_from, and_parts, eqb-true, eq-eqb}
use Rattle.std.proofs.lemmas.Bool.Decides.{nat_tests}
use Rattle.vectors.specs.Counts.{count, Rearranged}
use Rattle.vectors.proofs.Counts.{length_rearranged}
use Rattle.relation_laws.specs.Products.{ones}
use Rattle.relation_laws.proofs.Counts.{Only, Distinct, only_from_hits, hits_only, all_from_only, rearranged_from_counts}

abbrev bits : List ℕ
bits = 0 ∷ 1 ∷ []

bits_distinct : Distinct bits
bits_distinct x = grind (arith, nat_tests)

bit_counted : (x : ℕ) → x < 2 → 0 < count x bits
bit_counted x h = grind (arith, nat_tests)

ones_parts : (w : ℕ) (xs : List ℕ) → ones w xs ≡ true → (count 1 xs ≡ w) × (count 0 xs + count 1 xs ≡ length xs)
ones_parts w xs h =
    let both = and_parts (eqb (count 1 xs) w) (eqb (count 0 xs + count 1 xs) (length xs)) h in
    (eqb-true (count 1 xs) w both.0, eqb-true (count 0 xs + count 1 xs) (length xs) both.1)

pub count_ones : (w : ℕ) (xs : List ℕ) → ones w xs ≡ true → count 1 xs ≡ w
count_ones w xs h = (ones_parts w xs h).0

only_from_ones : (w : ℕ) (xs : List ℕ) → ones w xs ≡ true → Only bits xs
only_from_ones w xs h =
    let both = ones_parts w xs h in
    only_from_hits bits xs bits_distinct (omega arith)

pub bits_from_ones : (w : ℕ) (xs : List ℕ) → ones w xs ≡ true → AllByRecursion (λ x. x < 2) xs
bits_from_ones w xs h = all_from_only (λ x. x < 2) bits xs (omega arith, (omega arith, tt)) (only_from_ones w xs h)

pub ones_from_bits : (w : ℕ) (xs : List ℕ) → count 1 xs ≡ w → AllByRecursion (λ x. x < 2) xs → ones w xs ≡ true
ones_from_bits w xs e h =
    let all = hits_only bits xs bits_distinct (All-weaker (λ x. x < 2) (λ x. 0 < count x bits) bit_counted xs h) in
    and_from (eqb (count 1 xs) w) (eqb (count 0 xs + count 1 xs) (length xs)) (eq-eqb (count 1 xs) w e) (eq-eqb (count 0 xs + count 1 xs) (length xs) (omega arith))

pub ones_rearranged : (w : ℕ) (xs ys : List ℕ) → Rearranged xs ys → ones w xs ≡ ones w ys
ones_rearranged w xs ys h = ap₂ (λ a b. eqb a w && b) (h 1) (ap₂ eqb (ap₂ ◌+◌ (h 0) (h 1)) (length_rearranged xs ys h))

pub rearranged_from_ones : (w : ℕ) (xs ys : List ℕ) → length xs ≡ length ys → ones w xs ≡ true → ones w ys ≡ true → Rearranged xs ys
rearranged_from_ones w xs ys e hx hy =
    let px = ones_parts w xs hx in
    let py = ones_parts w ys hy in
    rearranged_from_counts bits xs ys (only_from_ones w xs hx) (only_from_ones w ys hy) (omega arith, (px.0 ∙ sym py.0, tt))
