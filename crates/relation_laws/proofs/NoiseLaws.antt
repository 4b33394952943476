-- The laws of the noise relation.
use Rattle.std.proofs.Common.{◌≡◌, ℕ, ◌*◌, ◌<◌, not, eqb, List, length, is_some, Some, None, sym, refl, ap, ◌∙◌, subst, one-mul, arith}
use Rattle.std.specs.List.{AllByRecursion}
use Rattle.std.proofs.lemmas.Bool.{cond-true, eqb-true, eq-eqb}
use Rattle.vectors.specs.Counts.{count}
use Rattle.vectors.specs.Residues.{below, plus, minus, Residues}
use Rattle.vectors.proofs.Residues.{all_from_below, below_from_all}
use Rattle.vectors.proofs.Sums.{plus_comm, plus_residues, minus_residues, plus-minus, minus_plus}
use Rattle.relation.specs.Laws.{RelationLaws, KeyNumbers}
use Rattle.relation_laws.specs.Products.{ones}
use Rattle.relation_laws.specs.Statements.{Statement, within}
use Rattle.relation_laws.specs.Noise.{noise, noise_free, noise_of, noise_key_fault}
use Rattle.relation_laws.specs.Lawful.{NoiseLawful}
use Rattle.relation_laws.proofs.Lists.{layer_only}
use Rattle.relation_laws.proofs.Made.{Made, made, none_parts, key_number, no_number}
use Rattle.relation_laws.proofs.Ones.{count_ones, ones_from_bits, ones_rearranged, rearranged_from_ones}
use Rattle.relation_laws.proofs.Products.{product-plus, product_residues}
use Rattle.relation_laws.proofs.Sums.{plus-plus}

module _ (s : Statement) where
  -- what a key of the statement has
  pub record NoiseKey (key : List ℕ) : Type 0 where
    pub long : length key ≡ s.columns
    pub bits : AllByRecursion (λ x. x < 2) key
    pub heavy : count 1 (noise_of s key) ≡ s.bound

  pub noise_key : (key : List ℕ) → noise_key_fault s key ≡ None → NoiseKey key
  noise_key key h =
      let long = none_parts (eqb (length key) s.columns) _ 21 h in
      let bits = none_parts (below 2 key) _ 22 long.1 in
      let heavy = none_parts (eqb (count 1 (noise_of s key)) s.bound) None 23 bits.1 in
      record {
        long = eqb-true (length key) s.columns long.0;
        bits = all_from_below 2 key bits.0;
        heavy = eqb-true (count 1 (noise_of s key)) s.bound heavy.0;
      }

  pub noise_key_none : (key : List ℕ) → NoiseKey key → noise_key_fault s key ≡ None
  noise_key_none key k =
      cond-true (eqb (length key) s.columns) _ (Some 21) (eq-eqb (length key) s.columns k.long)
      ∙ cond-true (below 2 key) _ (Some 22) (below_from_all 2 key k.bits)
      ∙ cond-true (eqb (count 1 (noise_of s key)) s.bound) None (Some 23) (eq-eqb (count 1 (noise_of s key)) s.bound k.heavy)

  module _ (q : s.q ≡ 2) (m : Made (eqb s.q 2) (within 1 s.rows s.bound) s) where
    free_residues : (t : List ℕ) → Residues s.q s.rows (noise_free s t)
    free_residues t = product_residues s.q s.columns s.rows s.matrix t (omega arith)

    one-layer : (zs : List ℕ) → Residues s.q (1 * s.rows) zs → Residues s.q s.rows zs
    one-layer zs h = (h.0 ∙ one-mul s.rows, h.1)

    noise_residues : (key : List ℕ) → Residues s.q s.rows (noise_of s key)
    noise_residues key = minus_residues s.q s.rows s.target (noise_free s key) (omega arith) m.target_residues (free_residues key)

    noise-whole : (key : List ℕ) → length (noise_of s key) ≡ 1 * s.rows
    noise-whole key = (noise_residues key).0 ∙ sym (one-mul s.rows)

    image-noise : (key : List ℕ) → plus s.q (noise_free s key) (noise_of s key) ≡ s.target
    image-noise key =
        plus_comm s.q (noise_free s key) (noise_of s key)
        ∙ plus-minus s.q s.rows s.target (noise_free s key) m.target_residues (free_residues key)

    noise_from_image : (zs t : List ℕ) → Residues s.q (1 * s.rows) zs → plus s.q (noise_free s t) zs ≡ s.target → noise_of s t ≡ zs
    noise_from_image zs t hz e =
        ap (λ y. minus s.q y (noise_free s t)) (sym e ∙ plus_comm s.q (noise_free s t) zs)
        ∙ minus_plus s.q s.rows zs (noise_free s t) (one-layer zs hz) (free_residues t)

    laws : RelationLaws (noise s)
    laws = record {
      q_range = (omega arith, omega arith);
      layer_count_range = (omega arith, omega arith);
      layer_len_range = (m.rows_range.0, omega arith);
      free_len_range = m.columns_range.1;
      image_len_range = m.rows_range;
      shape_rearranged = λ j xs ys l hx h. ones_rearranged s.bound xs ys h;
      shape_alike = λ j xs ys l hx hy ex ey. rearranged_from_ones s.bound xs ys (hx.0 ∙ sym hy.0) ex ey;
      target_residues = m.target_residues;
      image_residues = λ zs t hz ht. plus_residues s.q s.rows (noise_free s t) zs (omega arith) (free_residues t) (one-layer zs hz);
      image_plus = λ zs zs' t t' hz hz' ht ht'.
          ap (λ l. plus s.q l (plus s.q zs zs')) (product-plus s.q s.columns s.rows s.matrix t t' (ht.0 ∙ sym ht'.0))
          ∙ plus-plus s.q (noise_free s t) (noise_free s t') zs zs';
      split_layers = λ key h. (noise-whole key, (noise_residues key).1);
      split_free = λ key h. ((noise_key key h).long, subst (λ n. AllByRecursion (λ x. x < n) key) (sym q) (noise_key key h).bits);
      split_shaped = λ key h j l.
          ap (ones s.bound) (layer_only s.rows (noise_of s key) j (noise-whole key) l)
          ∙ ones_from_bits s.bound (noise_of s key) (noise_key key h).heavy (subst (λ n. AllByRecursion (λ x. x < n) (noise_of s key)) q (noise_residues key).1);
      split_image = λ key h. image-noise key;
      gather_extracted = λ zs t hz ht hs e.
          let shaped = ap (ones s.bound) (sym (layer_only s.rows zs 0 hz.0 (omega arith))) ∙ hs 0 (omega arith) in
          ap (λ fault. not (is_some fault))
          (noise_key_none t
          (record { long = ht.0; bits = subst (λ n. AllByRecursion (λ x. x < n) t) q ht.1; heavy = ap (count 1) (noise_from_image zs t hz e) ∙ count_ones s.bound zs shaped }));
      gather_split = λ key h. refl;
    }

pub noise_numbers : (s : Statement) → KeyNumbers (noise s)
noise_numbers s key n =
    key_number (eqb (length key) s.columns) _ 21 n (omega arith) (omega arith)
    (key_number (below 2 key) _ 22 n (omega arith) (omega arith)
    (key_number (eqb (count 1 (noise_of s key)) s.bound) None 23 n (omega arith) (omega arith) (no_number n)))

pub noise_lawful : NoiseLawful
noise_lawful s h =
    let m = made (eqb s.q 2) (within 1 s.rows s.bound) s h in
    laws s (eqb-true s.q 2 m.q_holds) m
