-- The first number that is not below q.
use Rattle.std.proofs.Common.{◌≡◌, ℕ, suc, ◌+◌, ◌*◌, ◌/◌, cond, Bool, ltb, leb, List, [], ◌∷◌, length, get_or, Some, Option, refl, sym, ap, ◌∙◌, arith}
use Rattle.std.specs.List.{position, position_from}
use Rattle.std.specs.Option.{option_map}
use Rattle.std.specs.Simd.{first_chunks}
use Rattle.std.proofs.lemmas.Iterator.Adapters.{position_from-zero}
use Rattle.std.proofs.lemmas.Bool.Decides.{nat_tests}
use Rattle.vectors.specs.Words.{words}
use Rattle.messages.specs.Checks.{first_above}

-- whether the number that a pair holds is not below q
abbrev pub pair_above : ℕ → List ℕ → Bool
pair_above q pair = leb q (get_or pair 0 0 * 256 + get_or pair 1 0)

-- a number before the others
above_step : (q x offset n k : ℕ) (others : Option ℕ) (rest : Option ℕ) → offset + 2 * k ≡ n → rest ≡ option_map (λ i. offset + 2 * i) others
    → cond (ltb x q) rest (Some n) ≡ option_map (λ i. offset + 2 * i) (cond (leb q x) (Some k) others)
above_step q x offset n k others rest e h = grind (arith, nat_tests)

above_from : (q offset k : ℕ) (bs : List ℕ) → first_above q (offset + 2 * k) (words bs) ≡ option_map (λ i. offset + 2 * i) (position_from (pair_above q) k (first_chunks 2 (length bs / 2) bs))
above_from q offset k [] = refl
above_from q offset k (x ∷ []) = refl
above_from q offset k (x ∷ y ∷ bs) =
    let n : length (x ∷ y ∷ bs) / 2 ≡ suc (length bs / 2) = omega arith in
    let next : offset + 2 * k + 2 ≡ offset + 2 * (k + 1) = omega arith in
    above_step q (x * 256 + y) offset (offset + 2 * k) k _ _ refl (ap (λ m. first_above q m (words bs)) next ∙ above_from q offset (k + 1) bs)
    ∙ ap (λ m. option_map (λ i. offset + 2 * i) (position_from (pair_above q) k (first_chunks 2 m (x ∷ y ∷ bs)))) (sym n)

pub first_above_is : (q offset : ℕ) (bs : List ℕ) → option_map (λ i. offset + 2 * i) (position (pair_above q) (first_chunks 2 (length bs / 2) bs)) ≡ first_above q offset (words bs)
first_above_is q offset bs =
    let n : offset + 2 * 0 ≡ offset = omega arith in
    ap (option_map (λ i. offset + 2 * i)) (position_from-zero (pair_above q) (first_chunks 2 (length bs / 2) bs)) ∙ sym (above_from q offset 0 bs)
    ∙ ap (λ m. first_above q m (words bs)) n
