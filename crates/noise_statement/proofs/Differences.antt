-- Differences modulo 2, and the test of a sum by a difference.
use Rattle.std.proofs.Common.{◌≡◌, ℕ, ◌+◌, ◌-◌, ◌%◌, ◌<◌, List, [], ◌∷◌, Decides, sym, refl, ap, ◌∙◌, subst, ap₂, arith}
use Rattle.std.specs.List.{AllByRecursion}
use Rattle.std.proofs.lemmas.Bool.Decides.{same_from_decides, Decides-like}
use Rattle.vectors.specs.Lists.{same}
use Rattle.vectors.specs.Residues.{plus, minus, Residues}
use Rattle.vectors.proofs.Sums.{plus-minus, minus_plus}
use Rattle.relation_laws.proofs.Lists.{same_true, eq_same}

minus-two : (ys ps : List ℕ) → AllByRecursion (λ p. p < 2) ps → minus 2 ys ps ≡ plus 2 ps ys
minus-two [] [] h = refl
minus-two [] (p ∷ ps) h = refl
minus-two (y ∷ ys) [] h = refl
minus-two (y ∷ ys) (p ∷ ps) h =
    let first : (y + (2 - p)) % 2 ≡ (p + y) % 2 = omega (arith, h.0) in
    ap₂ (λ a b. a ∷ b) first (minus-two ys ps h.1)

pub minus_modulo_two : (q : ℕ) (ys ps : List ℕ) → q ≡ 2 → AllByRecursion (λ p. p < q) ps → minus q ys ps ≡ plus q ps ys
minus_modulo_two q ys ps e h =
    ap (λ n. minus n ys ps) e ∙ minus-two ys ps (subst (λ n. AllByRecursion (λ p. p < n) ps) e h) ∙ ap (λ n. plus n ps ys) (sym e)

decides_same : (xs ys : List ℕ) → Decides (same xs ys) (xs ≡ ys)
decides_same xs ys = (same_true xs ys, eq_same xs ys)

-- p is y − z exactly if p + z is y
pub same_minus : (q n : ℕ) (p y z : List ℕ) → Residues q n p → Residues q n y → Residues q n z → same p (minus q y z) ≡ same (plus q p z) y
same_minus q n p y z hp hy hz =
    same_from_decides (same p (minus q y z)) (same (plus q p z) y)
    (Decides-like (same p (minus q y z)) (λ e. ap (λ l. plus q l z) e ∙ plus-minus q n y z hy hz) (λ e. sym (minus_plus q n p z hp hz) ∙ ap (λ l. minus q l z) e)
    (decides_same p (minus q y z)))
    (decides_same (plus q p z) y)
