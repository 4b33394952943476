use Rattle.std.proofs.Common.{◌≡◌, ℕ, ◌≤◌, List, [], ◌∷◌, length, Bool, true, false, cond, ◌==◌, refl, ◌∙◌, sym, arith, rules, tests}
use Rattle.std.specs.List.{sum_by}
use Rattle.std.proofs.lemmas.List.Recursion.{is_sum_by}
use Rattle.std.proofs.lemmas.Iterator.{YieldsList-from_slice, YieldsList-from_map}
use Rattle.std.proofs.lemmas.Iterator.Consumers.{sum_by_from_yields_List, fits_by_from_yields_list, YieldsList-at}
use Rattle.vectors.specs.Counts.{count}
use Rattle.statements.proofs.counts.count_of.Goals as goal

-- what the closure gives
abbrev hit : ℕ → ℕ → ℕ
hit v x = cond (v == x) 1 0

hit-le : (b : Bool) → cond b 1 0 ≤ 1
hit-le true = omega arith
hit-le false = omega arith

count-is_sum_by : (v : ℕ) (xs : List ℕ) → count v xs ≡ sum_by (hit v) xs
count-is_sum_by v xs = is_sum_by (count v) (hit v) refl (λ _ _. refl) xs

count-le-length : (v : ℕ) (xs : List ℕ) → count v xs ≤ length xs
count-le-length v [] = omega arith
count-le-length v (x ∷ xs) = omega (arith, hit-le (v == x), count-le-length v xs)

pub sum-requires-clause-fits : goal.sum-requires-clause-fits
sum-requires-clause-fits c =
    let v = c.args.value in
    let xs = c.args.values.now in
    fits_by_from_yields_list (hit v) xs c.map.result _
    (YieldsList-from_map _ (hit v)
    (YieldsList-at c.map.ensures.source (YieldsList-from_slice xs cc))
    c.map.ensures.closure (λ x r q k. search (rules, tests)))
    (omega (arith, count-is_sum_by v xs, count-le-length v xs))

pub returns : goal.returns
returns c =
    let v = c.args.value in
    let xs = c.args.values.now in
    let e : c.sum.result ≡ count v xs =
    sum_by_from_yields_List (hit v) xs c.map.result c.sum.result c.sum.ensures.ran
    (YieldsList-from_map _ (hit v)
    (YieldsList-at c.map.ensures.source (YieldsList-from_slice xs cc))
    c.map.ensures.closure (λ x r q k. search (rules, tests)))
    ∙ sym (count-is_sum_by v xs) in
    (e, omega (arith, count-le-length v xs))
