-- An array whose entries a closure computes from their places.
use Rattle.std.proofs.Common.{◌≡◌, ℕ, zero, suc, ◌+◌, ◌<◌, ◌≤◌, List, map, get_or, subst, sym, ap, ◌∙◌, inl, inr, arith}
use Rattle.std.specs.List.{range_with_len}
use Rattle.std.specs.Array.{IsFromFnResultFrom, IsFromFnResult}
use Rattle.std.proofs.lemmas.List.FromFn.{fill_by_all}
use Rattle.std.proofs.lemmas.Bool.{cases_lt}
use denote.Param.Members.{Mut, Called}

module _ {F : Type 0} (g : Mut F (ℕ × Unit {0}) ℕ) (f : F) (h : ℕ → ℕ) (ys : List ℕ) (n : ℕ) where
  made_from : ((i y : ℕ) (q : F) → i < n → Called g f (i, tt) y q → (q ≡ f) × (y ≡ h i)) →
      (m i : ℕ) → i + m ≤ n → IsFromFnResultFrom g f ys i m → (k : ℕ) → i ≤ k → k < i + m → get_or ys k 0 ≡ h k
  made_from acts zero i le made k low high = absurd (omega arith)
  made_from acts (suc m) i le (q, y, at, call, rest) k low high =
      let now = acts i y q (omega arith) call in
      elim (cases_lt i k) [
        | inl more ↦ made_from acts m (i + 1) (omega arith) (subst (λ p. IsFromFnResultFrom g p ys (i + 1) m) now.0 rest) k (omega arith) (omega arith)
        | inr here ↦ (let e : k ≡ i = omega arith in ap (λ j. get_or ys j 0) e ∙ at.1 0 ∙ now.1 ∙ ap h (sym e))
      ]

  pub made_is : ((i y : ℕ) (q : F) → i < n → Called g f (i, tt) y q → (q ≡ f) × (y ≡ h i)) → IsFromFnResult g f ys n → ys ≡ map h (range_with_len 0 n)
  made_is acts made = fill_by_all h ys n 0 made.long (λ k lt. made_from acts n 0 (omega arith) made.each k (omega arith) (omega arith))
