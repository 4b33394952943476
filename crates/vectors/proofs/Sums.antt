-- Sums and differences of lists of residues: each undoes the other, and both commute with what moves or cuts the lists.
use Rattle.std.proofs.Common.{◌≡◌, ℕ, zero, suc, ◌+◌, ◌-◌, ◌%◌, ◌<◌, ◌≤◌, List, [], ◌∷◌, ◌++◌, length, get_or, take, drop, sym, refl, ap, ◌∙◌, ap₂, ⊎_elim, mod-lt, mod-eq_of_lt, add_comm, arith}
use native.Mathlib.Nat.{zero-mod, mod-add-mod, add-mod_right, mod-eq-sub-mod}
use Rattle.std.proofs.lemmas.Bool.{cases_lt}
use Rattle.vectors.specs.Residues.{plus, minus, Residues}
use Rattle.vectors.specs.Permutations.{permuted}

-- a number below 2q modulo q, from what one subtraction at most gives
pub mod_from_cases : (q n r : ℕ) → n < q + q → (n < q → r ≡ n) → (q ≤ n → r ≡ n - q) → r ≡ n % q
mod_from_cases q n r h below past = ⊎_elim under over (cases_lt n q)
  where
    under : n < q → r ≡ n % q
    under l = below l ∙ sym (mod-eq_of_lt l)

    over : q ≤ n → r ≡ n % q
    over l =
        let b : n - q < q = omega arith in
        past l ∙ sym (mod-eq-sub-mod l ∙ mod-eq_of_lt b)

-- one entry
module _ (q x y : ℕ) (hx : x < q) (hy : y < q) where
  sub-add : ((x + (q - y)) % q + y) % q ≡ x
  sub-add =
      let e : x + (q - y) + y ≡ x + q = omega arith in
      mod-add-mod (x + (q - y)) q y ∙ ap (λ n. n % q) e ∙ add-mod_right x q ∙ mod-eq_of_lt hx

  add-sub : ((x + y) % q + (q - y)) % q ≡ x
  add-sub =
      let e : x + y + (q - y) ≡ x + q = omega arith in
      mod-add-mod (x + y) q (q - y) ∙ ap (λ n. n % q) e ∙ add-mod_right x q ∙ mod-eq_of_lt hx

pub plus_comm : (q : ℕ) (xs ys : List ℕ) → plus q xs ys ≡ plus q ys xs
plus_comm q [] [] = refl
plus_comm q [] (y ∷ ys) = refl
plus_comm q (x ∷ xs) [] = refl
plus_comm q (x ∷ xs) (y ∷ ys) = ap₂ (λ a b. a % q ∷ b) (add_comm x y) (plus_comm q xs ys)

pub length-plus : (q : ℕ) (xs ys : List ℕ) → length xs ≡ length ys → length (plus q xs ys) ≡ length xs
length-plus q [] ys e = refl
length-plus q (x ∷ xs) [] e = absurd (omega arith)
length-plus q (x ∷ xs) (y ∷ ys) e = ap suc (length-plus q xs ys (omega arith))

pub length-minus : (q : ℕ) (xs ys : List ℕ) → length xs ≡ length ys → length (minus q xs ys) ≡ length xs
length-minus q [] ys e = refl
length-minus q (x ∷ xs) [] e = absurd (omega arith)
length-minus q (x ∷ xs) (y ∷ ys) e = ap suc (length-minus q xs ys (omega arith))

pub get_or-plus : (q : ℕ) (xs ys : List ℕ) (i : ℕ) → length xs ≡ length ys → get_or (plus q xs ys) i 0 ≡ (get_or xs i 0 + get_or ys i 0) % q
get_or-plus q [] [] i e = sym (zero-mod q)
get_or-plus q [] (y ∷ ys) i e = absurd (omega arith)
get_or-plus q (x ∷ xs) [] i e = absurd (omega arith)
get_or-plus q (x ∷ xs) (y ∷ ys) zero e = refl
get_or-plus q (x ∷ xs) (y ∷ ys) (suc i) e = get_or-plus q xs ys i (omega arith)

pub get_or-minus : (q : ℕ) (xs ys : List ℕ) (i : ℕ) → length xs ≡ length ys → i < length xs → get_or (minus q xs ys) i 0 ≡ (get_or xs i 0 + (q - get_or ys i 0)) % q
get_or-minus q [] ys i e l = absurd (omega arith)
get_or-minus q (x ∷ xs) [] i e l = absurd (omega arith)
get_or-minus q (x ∷ xs) (y ∷ ys) zero e l = refl
get_or-minus q (x ∷ xs) (y ∷ ys) (suc i) e l = get_or-minus q xs ys i (omega arith) (omega arith)

pub plus_residues : (q n : ℕ) (xs ys : List ℕ) → 0 < q → Residues q n xs → Residues q n ys → Residues q n (plus q xs ys)
plus_residues q n [] ys z (e, a) (d, b) = (e, tt)
plus_residues q zero (x ∷ xs) ys z (e, a) (d, b) = absurd (omega arith)
plus_residues q (suc n) (x ∷ xs) [] z (e, a) (d, b) = absurd (omega arith)
plus_residues q (suc n) (x ∷ xs) (y ∷ ys) z (e, a) (d, b) =
    let r : Residues q n (plus q xs ys) = plus_residues q n xs ys z (omega arith, a.1) (omega arith, b.1) in
    (ap suc r.0, (mod-lt (x + y) z, r.1))

pub minus_residues : (q n : ℕ) (xs ys : List ℕ) → 0 < q → Residues q n xs → Residues q n ys → Residues q n (minus q xs ys)
minus_residues q n [] ys z (e, a) (d, b) = (e, tt)
minus_residues q zero (x ∷ xs) ys z (e, a) (d, b) = absurd (omega arith)
minus_residues q (suc n) (x ∷ xs) [] z (e, a) (d, b) = absurd (omega arith)
minus_residues q (suc n) (x ∷ xs) (y ∷ ys) z (e, a) (d, b) =
    let r : Residues q n (minus q xs ys) = minus_residues q n xs ys z (omega arith, a.1) (omega arith, b.1) in
    (ap suc r.0, (mod-lt (x + (q - y)) z, r.1))

pub plus-minus : (q n : ℕ) (xs ys : List ℕ) → Residues q n xs → Residues q n ys → plus q (minus q xs ys) ys ≡ xs
plus-minus q n [] ys (e, a) (d, b) = refl
plus-minus q zero (x ∷ xs) ys (e, a) (d, b) = absurd (omega arith)
plus-minus q (suc n) (x ∷ xs) [] (e, a) (d, b) = absurd (omega arith)
plus-minus q (suc n) (x ∷ xs) (y ∷ ys) (e, a) (d, b) =
    ap₂ (λ a b. a ∷ b) (sub-add q x y a.0 b.0) (plus-minus q n xs ys (omega arith, a.1) (omega arith, b.1))

pub minus_plus : (q n : ℕ) (xs ys : List ℕ) → Residues q n xs → Residues q n ys → minus q (plus q xs ys) ys ≡ xs
minus_plus q n [] ys (e, a) (d, b) = refl
minus_plus q zero (x ∷ xs) ys (e, a) (d, b) = absurd (omega arith)
minus_plus q (suc n) (x ∷ xs) [] (e, a) (d, b) = absurd (omega arith)
minus_plus q (suc n) (x ∷ xs) (y ∷ ys) (e, a) (d, b) =
    ap₂ (λ a b. a ∷ b) (add-sub q x y a.0 b.0) (minus_plus q n xs ys (omega arith, a.1) (omega arith, b.1))

pub plus_cancel : (q n : ℕ) (xs ys zs : List ℕ) → Residues q n xs → Residues q n ys → Residues q n zs → plus q xs zs ≡ plus q ys zs → xs ≡ ys
plus_cancel q n xs ys zs a b c e = sym (minus_plus q n xs zs a c) ∙ ap (λ l. minus q l zs) e ∙ minus_plus q n ys zs b c

pub permuted-plus : (q : ℕ) (p xs ys : List ℕ) → length xs ≡ length ys → permuted p (plus q xs ys) ≡ plus q (permuted p xs) (permuted p ys)
permuted-plus q [] xs ys e = refl
permuted-plus q (i ∷ p) xs ys e = ap₂ (λ a b. a ∷ b) (get_or-plus q xs ys i e) (permuted-plus q p xs ys e)

pub take-plus : (q n : ℕ) (xs ys : List ℕ) → take n (plus q xs ys) ≡ plus q (take n xs) (take n ys)
take-plus q zero xs ys = refl
take-plus q (suc n) [] ys = refl
take-plus q (suc n) (x ∷ xs) [] = refl
take-plus q (suc n) (x ∷ xs) (y ∷ ys) = ap (λ l. (x + y) % q ∷ l) (take-plus q n xs ys)

pub drop-plus : (q n : ℕ) (xs ys : List ℕ) → drop n (plus q xs ys) ≡ plus q (drop n xs) (drop n ys)
drop-plus q zero xs ys = refl
drop-plus q (suc n) [] ys = refl
drop-plus q (suc n) (x ∷ xs) [] = plus_comm q [] (drop n xs)
drop-plus q (suc n) (x ∷ xs) (y ∷ ys) = drop-plus q n xs ys

pub plus-append : (q : ℕ) (xs ys us bs : List ℕ) → length xs ≡ length us → plus q (xs ++ ys) (us ++ bs) ≡ plus q xs us ++ plus q ys bs
plus-append q [] ys [] bs e = refl
plus-append q [] ys (a ∷ us) bs e = absurd (omega arith)
plus-append q (x ∷ xs) ys [] bs e = absurd (omega arith)
plus-append q (x ∷ xs) ys (a ∷ us) bs e = ap (λ l. (x + a) % q ∷ l) (plus-append q xs ys us bs (omega arith))
