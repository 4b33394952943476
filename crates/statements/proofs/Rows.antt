-- The rows of a product one by one.
use Rattle.std.proofs.Common.{◌≡◌, ℕ, zero, suc, ◌+◌, ◌-◌, ◌*◌, ◌%◌, ◌<◌, Bool, true, false, List, length, get_or, take, drop, sym, refl, ap, ◌∙◌, arith}
use Rattle.std.proofs.lemmas.List.{drop-drop, ext_get_or}
use Rattle.vectors.specs.Lists.{same}
use Rattle.vectors.specs.Residues.{below}
use Rattle.vectors.proofs.Residues.{below_from_all}
use Rattle.relation_laws.specs.Products.{dot, product}
use Rattle.statements.specs.Products.{entry}
use Rattle.relation_laws.proofs.Lists.{same_true, eq_same}
use Rattle.relation_laws.proofs.Products.{product_residues}

module _ (q columns : ℕ) where
  -- entry i as the code computes it
  pub entry_row : (A z : List ℕ) (i n : ℕ) → n ≡ dot (take (i * columns + columns - i * columns) (drop (i * columns) A)) z → n % q ≡ entry q columns A z i
  entry_row A z i n e =
      let w : i * columns + columns - i * columns ≡ columns = omega arith in
      ap (λ n. n % q) (e ∙ ap (λ k. dot (take k (drop (i * columns) A)) z) w)

  length-product : (rows : ℕ) (A z : List ℕ) → length (product q columns rows A z) ≡ rows
  length-product zero A z = refl
  length-product (suc rows) A z = ap suc (length-product rows (drop columns A) z)

  get_or-product : (rows : ℕ) (A z : List ℕ) (i : ℕ) → i < rows → get_or (product q columns rows A z) i 0 ≡ entry q columns A z i
  get_or-product zero A z i h = absurd (omega arith)
  get_or-product (suc rows) A z zero h =
      let s : 0 * columns ≡ 0 = omega arith in
      ap (λ k. dot (take columns (drop k A)) z % q) (sym s)
  get_or-product (suc rows) A z (suc i) h =
      let s : columns + i * columns ≡ suc i * columns = omega arith in
      get_or-product rows (drop columns A) z i (omega arith)
      ∙ ap (λ l. dot (take columns l) z % q) (drop-drop (i * columns) columns A ∙ ap (λ k. drop k A) s)

  pub product-below : (rows : ℕ) (A z : List ℕ) → 0 < q → below q (product q columns rows A z) ≡ true
  product-below rows A z h = below_from_all q (product q columns rows A z) (product_residues q columns rows A z h).1

  pub product_from_entries : (rows : ℕ) (A z out : List ℕ) → length out ≡ rows → ((i : ℕ) → i < rows → get_or out i 0 ≡ entry q columns A z i) → out ≡ product q columns rows A z
  product_from_entries rows A z out e h =
      ext_get_or 0 out (product q columns rows A z) (e ∙ sym (length-product rows A z)) (λ i l. h i (omega arith) ∙ sym (get_or-product rows A z i (omega arith)))

  pub same_from_entries : (A z y : List ℕ) → ((i : ℕ) → i < length y → get_or y i 0 ≡ entry q columns A z i) → same (product q columns (length y) A z) y ≡ true
  same_from_entries A z y h = eq_same (product q columns (length y) A z) y (sym (product_from_entries (length y) A z y refl h))

  pub not_same_from_entry : (A z y : List ℕ) (i : ℕ) → i < length y → (entry q columns A z i ≡ get_or y i 0 → ⊥) → same (product q columns (length y) A z) y ≡ false
  not_same_from_entry A z y i l h = go (same (product q columns (length y) A z) y) refl
    where
      go : (b : Bool) → same (product q columns (length y) A z) y ≡ b → b ≡ false
      go false e = refl
      go true e = absurd (h (sym (get_or-product (length y) A z i l) ∙ ap (λ l. get_or l i 0) (same_true (product q columns (length y) A z) y e)))
