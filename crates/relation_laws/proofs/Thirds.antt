-- Lists of the residues 0, 1 and −1, and lists filled up so that each of them stands equally often.
use Rattle.std.proofs.Common.{◌≡◌, ℕ, ◌+◌, ◌-◌, ◌*◌, ◌≤◌, true, ◌&&◌, eqb, List, [], ◌∷◌, ◌++◌, length, take, replicate, sym, ap, ◌∙◌, ap₂, arith}
use Rattle.std.specs.List.{AllByRecursion}
use Rattle.std.proofs.ByRecursion.{All-append}
use Rattle.std.proofs.lemmas.List.{append_assoc, length-append, length-replicate, take_at}
use Rattle.std.proofs.lemmas.Bool.{and_from, and_parts, eqb-true, eq-eqb}
use Rattle.std.proofs.lemmas.Bool.Decides.{nat_tests}
use Rattle.vectors.specs.Counts.{count, Rearranged}
use Rattle.relation_laws.specs.Short.{filled, thirds}
use Rattle.relation_laws.proofs.Counts.{count-append, count-replicate, count-replicate_other, Only, Distinct, only_from_hits, hits_only, rearranged_from_counts}
use Rattle.relation_laws.proofs.Lists.{all_replicate}

-- 0, 1 and −1
abbrev pub units : ℕ → List ℕ
units q = 0 ∷ 1 ∷ (q - 1) ∷ []

units_distinct : (q : ℕ) → 3 ≤ q → Distinct (units q)
units_distinct q h x = grind (arith, nat_tests)

record Thirds (q m : ℕ) (xs : List ℕ) : Type 0 where
  zeros : count 0 xs ≡ m
  ones : count 1 xs ≡ m
  minuses : count (q - 1) xs ≡ m

thirds_parts : (q m : ℕ) (xs : List ℕ) → thirds q m xs ≡ true → Thirds q m xs
thirds_parts q m xs h =
    let zeros = and_parts (eqb (count 0 xs) m) _ h in
    let others = and_parts (eqb (count 1 xs) m) (eqb (count (q - 1) xs) m) zeros.1 in
    record { zeros = eqb-true (count 0 xs) m zeros.0; ones = eqb-true (count 1 xs) m others.0; minuses = eqb-true (count (q - 1) xs) m others.1 }

thirds_from : (q m : ℕ) (xs : List ℕ) → Thirds q m xs → thirds q m xs ≡ true
thirds_from q m xs t =
    and_from (eqb (count 0 xs) m) (eqb (count 1 xs) m && eqb (count (q - 1) xs) m) (eq-eqb (count 0 xs) m t.zeros)
    (and_from (eqb (count 1 xs) m) (eqb (count (q - 1) xs) m) (eq-eqb (count 1 xs) m t.ones) (eq-eqb (count (q - 1) xs) m t.minuses))

pub only_from_thirds : (q m : ℕ) (xs : List ℕ) → 3 ≤ q → length xs ≡ 3 * m → thirds q m xs ≡ true → Only (units q) xs
only_from_thirds q m xs h e t =
    let p = thirds_parts q m xs t in
    only_from_hits (units q) xs (units_distinct q h) (omega arith)

pub thirds_rearranged : (q m : ℕ) (xs ys : List ℕ) → Rearranged xs ys → thirds q m xs ≡ thirds q m ys
thirds_rearranged q m xs ys h =
    ap₂ (λ a b. eqb a m && b) (h 0) (ap₂ (λ a b. eqb a m && eqb b m) (h 1) (h (q - 1)))

pub rearranged_from_thirds : (q m : ℕ) (xs ys : List ℕ) → 3 ≤ q → length xs ≡ 3 * m → length ys ≡ 3 * m → thirds q m xs ≡ true → thirds q m ys ≡ true → Rearranged xs ys
rearranged_from_thirds q m xs ys h ex ey tx ty =
    let px = thirds_parts q m xs tx in
    let py = thirds_parts q m ys ty in
    rearranged_from_counts (units q) xs ys (only_from_thirds q m xs h ex tx) (only_from_thirds q m ys h ey ty)
    (px.zeros ∙ sym py.zeros, (px.ones ∙ sym py.ones, (px.minuses ∙ sym py.minuses, tt)))

-- a list of m digits, each 0, 1 or −1
module _ (q m : ℕ) (ds : List ℕ) (h : 3 ≤ q) (e : length ds ≡ m) (o : Only (units q) ds) where
  digit_counts : count 0 ds + (count 1 ds + count (q - 1) ds) ≡ m
  digit_counts =
      let c = hits_only (units q) ds (units_distinct q h) o in
      omega arith

  pub length-filled : length (filled q m ds) ≡ 3 * m
  length-filled =
      let c = digit_counts in
      simp (length-append, length-replicate) (omega arith)

  count-filled : (v : ℕ) → count v (filled q m ds) ≡ count v ds + (count v (replicate (m - count (q - 1) ds) (q - 1)) + (count v (replicate (m - count 0 ds) 0) + count v (replicate (m - count 1 ds) 1)))
  count-filled v =
      count-append v ds _
      ∙ ap (λ n. count v ds + n) (count-append v (replicate (m - count (q - 1) ds) (q - 1)) _
      ∙ ap (λ n. count v (replicate (m - count (q - 1) ds) (q - 1)) + n) (count-append v (replicate (m - count 0 ds) 0) (replicate (m - count 1 ds) 1)))

  pub thirds-filled : thirds q m (filled q m ds) ≡ true
  thirds-filled =
      let c = digit_counts in
      let minuses = m - count (q - 1) ds in
      let zeros = m - count 0 ds in
      let ones = m - count 1 ds in
      thirds_from q m (filled q m ds) (record {
        zeros = omega (arith, count-filled 0, count-replicate_other 0 (q - 1) minuses (λ d. omega arith), count-replicate 0 zeros, count-replicate_other 0 1 ones (λ d. omega arith));
        ones = omega (arith, count-filled 1, count-replicate_other 1 (q - 1) minuses (λ d. omega arith), count-replicate_other 1 0 zeros (λ d. omega arith), count-replicate 1 ones);
        minuses = omega (arith, count-filled (q - 1), count-replicate (q - 1) minuses, count-replicate_other (q - 1) 0 zeros (λ d. omega arith), count-replicate_other (q - 1) 1 ones (λ d. omega arith));
      })

  pub all_filled : (P : ℕ → Type 0) → P 0 → P 1 → P (q - 1) → AllByRecursion P ds → AllByRecursion P (filled q m ds)
  all_filled P zeros ones minuses digits =
      All-append P ds _ digits
      (All-append P (replicate (m - count (q - 1) ds) (q - 1)) _ (all_replicate P (m - count (q - 1) ds) (q - 1) minuses)
      (All-append P (replicate (m - count 0 ds) 0) _ (all_replicate P (m - count 0 ds) 0 zeros) (all_replicate P (m - count 1 ds) 1 ones)))

  pub take-filled : (rest : List ℕ) → take m (filled q m ds ++ rest) ≡ ds
  take-filled rest = ap (take m) (append_assoc ds _ rest) ∙ take_at ds _ m e
