-- The laws of the weight relation.
use Rattle.std.proofs.Common.{◌≡◌, ℕ, ◌*◌, ◌<◌, ◌≤◌, not, eqb, List, length, is_some, Some, None, sym, refl, ap, ◌∙◌, one-mul, arith}
use Rattle.std.specs.List.{AllByRecursion}
use Rattle.std.proofs.ByRecursion.{All-weaker}
use Rattle.std.proofs.lemmas.Bool.{cond-true, eqb-true, eq-eqb}
use Rattle.vectors.specs.Counts.{count}
use Rattle.vectors.specs.Lists.{same}
use Rattle.vectors.specs.Residues.{below}
use Rattle.vectors.proofs.Residues.{all_from_below, below_from_all}
use Rattle.relation.specs.Laws.{RelationLaws, KeyNumbers}
use Rattle.relation_laws.specs.Products.{ones}
use Rattle.relation_laws.specs.Statements.{Statement, within}
use Rattle.relation_laws.specs.Weight.{weight, weight_image, weight_key_fault}
use Rattle.relation_laws.specs.Lawful.{WeightLawful}
use Rattle.relation_laws.proofs.Lists.{same_true, eq_same, layer_only}
use Rattle.relation_laws.proofs.Made.{Made, made, none_parts, key_number, no_number, within_true}
use Rattle.relation_laws.proofs.Ones.{count_ones, bits_from_ones, ones_from_bits, ones_rearranged, rearranged_from_ones}
use Rattle.relation_laws.proofs.Products.{product-plus, product_residues}

module _ (s : Statement) where
  -- what a key of the statement has
  pub record WeightKey (key : List ℕ) : Type 0 where
    pub long : length key ≡ s.columns
    pub bits : AllByRecursion (λ x. x < 2) key
    pub heavy : count 1 key ≡ s.bound
    pub image : weight_image s key ≡ s.target

  pub weight_key : (key : List ℕ) → weight_key_fault s key ≡ None → WeightKey key
  weight_key key h =
      let long = none_parts (eqb (length key) s.columns) _ 21 h in
      let bits = none_parts (below 2 key) _ 22 long.1 in
      let heavy = none_parts (eqb (count 1 key) s.bound) _ 23 bits.1 in
      let image = none_parts (same (weight_image s key) s.target) None 24 heavy.1 in
      record {
        long = eqb-true (length key) s.columns long.0;
        bits = all_from_below 2 key bits.0;
        heavy = eqb-true (count 1 key) s.bound heavy.0;
        image = same_true (weight_image s key) s.target image.0;
      }

  pub weight_key_none : (key : List ℕ) → WeightKey key → weight_key_fault s key ≡ None
  weight_key_none key k =
      cond-true (eqb (length key) s.columns) _ (Some 21) (eq-eqb (length key) s.columns k.long)
      ∙ cond-true (below 2 key) _ (Some 22) (below_from_all 2 key k.bits)
      ∙ cond-true (eqb (count 1 key) s.bound) _ (Some 23) (eq-eqb (count 1 key) s.bound k.heavy)
      ∙ cond-true (same (weight_image s key) s.target) None (Some 24) (eq_same (weight_image s key) s.target k.image)

  laws : (2 ≤ s.q) × (s.q ≤ 65535) → Made (within 2 65535 s.q) (within 1 s.columns s.bound) s → RelationLaws (weight s)
  laws q m = record {
    q_range = q;
    layer_count_range = (omega arith, omega arith);
    layer_len_range = (m.columns_range.0, omega arith);
    free_len_range = omega arith;
    image_len_range = m.rows_range;
    shape_rearranged = λ j xs ys l hx h. ones_rearranged s.bound xs ys h;
    shape_alike = λ j xs ys l hx hy ex ey. rearranged_from_ones s.bound xs ys (hx.0 ∙ sym hy.0) ex ey;
    target_residues = m.target_residues;
    image_residues = λ zs t hz ht. product_residues s.q s.columns s.rows s.matrix zs (omega arith);
    image_plus = λ zs zs' t t' hz hz' ht ht'. product-plus s.q s.columns s.rows s.matrix zs zs' (hz.0 ∙ sym hz'.0);
    split_layers = λ key h. (whole key h, All-weaker (λ x. x < 2) (λ x. x < s.q) (λ x l. omega arith) key (weight_key key h).bits);
    split_free = λ key h. (refl, tt);
    split_shaped = λ key h j l. ap (ones s.bound) (layer_only s.columns key j (whole key h) l) ∙ ones_from_bits s.bound key (weight_key key h).heavy (weight_key key h).bits;
    split_image = λ key h. (weight_key key h).image;
    gather_extracted = λ zs t hz ht hs e.
        let shaped = ap (ones s.bound) (sym (layer_only s.columns zs 0 hz.0 (omega arith))) ∙ hs 0 (omega arith) in
        ap (λ fault. not (is_some fault))
        (weight_key_none zs (record { long = hz.0 ∙ one-mul s.columns; bits = bits_from_ones s.bound zs shaped; heavy = count_ones s.bound zs shaped; image = e }));
    gather_split = λ key h. refl;
  }
    where
      whole : (key : List ℕ) → weight_key_fault s key ≡ None → length key ≡ 1 * s.columns
      whole key h = (weight_key key h).long ∙ sym (one-mul s.columns)

pub weight_numbers : (s : Statement) → KeyNumbers (weight s)
weight_numbers s key n =
    key_number (eqb (length key) s.columns) _ 21 n (omega arith) (omega arith)
    (key_number (below 2 key) _ 22 n (omega arith) (omega arith)
    (key_number (eqb (count 1 key) s.bound) _ 23 n (omega arith) (omega arith)
    (key_number (same (weight_image s key) s.target) None 24 n (omega arith) (omega arith) (no_number n))))

pub weight_lawful : WeightLawful
weight_lawful s h =
    let m = made (within 2 65535 s.q) (within 1 s.columns s.bound) s h in
    laws s (within_true 2 65535 s.q m.q_holds) m
