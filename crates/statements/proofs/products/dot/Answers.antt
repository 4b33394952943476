use Rattle.std.proofs.Common.{◌≡◌, ℕ, ◌*◌, List, [], ◌∷◌, refl, ap, ◌+◌, ◌∙◌, rules, tests}
use Rattle.std.specs.List.{zip, sum_by}
use Rattle.std.proofs.lemmas.List.Sums.{sum_by-cons}
use Rattle.std.proofs.lemmas.Iterator.{YieldsList-from_slice, YieldsList-from_zip, YieldsList-from_map}
use Rattle.std.proofs.lemmas.Iterator.Consumers.{sum_by_from_yields_List, YieldsList-at}
use Rattle.relation_laws.specs.Products.{dot}
use Rattle.statements.proofs.products.dot.Goals as goal

abbrev product_of : ℕ × ℕ → ℕ
product_of p = p.0 * p.1

sum_of_products : (xs ys : List ℕ) → sum_by product_of (zip xs ys) ≡ dot xs ys
sum_of_products [] ys = refl
sum_of_products (x ∷ xs) [] = refl
sum_of_products (x ∷ xs) (y ∷ ys) = sum_by-cons product_of (x, y) (zip xs ys) ∙ ap (λ n. x * y + n) (sum_of_products xs ys)

pub returns : goal.returns
returns c =
    let xs = c.args.left.now in
    let ys = c.args.right.now in
    sum_by_from_yields_List product_of (zip xs ys) c.map.result c.sum.result c.sum.ensures.ran
    (YieldsList-from_map _ product_of
    (YieldsList-at c.map.ensures.source (YieldsList-from_zip (YieldsList-at c.zip-pairs.ensures.first (YieldsList-from_slice xs cc)) (YieldsList-from_slice ys c.zip-pairs.ensures.second.0)))
    c.map.ensures.closure (λ x r q k. search (rules, tests)))
    ∙ sum_of_products xs ys
