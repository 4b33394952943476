-- The laws of the short relation.
use Rattle.std.proofs.Common.{◌≡◌, ℕ, ◌-◌, ◌*◌, ◌^◌, ◌<◌, ◌≤◌, true, not, eqb, leb, List, length, ℤ, is_some, Some, None, Decides, sym, refl, ap, ◌∙◌, arith}
use Rattle.std.specs.List.{AllByRecursion}
use Rattle.std.proofs.ByRecursion.{All-weaker, Decides-by_and}
use Rattle.std.proofs.lemmas.List.{length-map}
use Rattle.std.proofs.lemmas.Bool.{cond-true, eqb-true, eq-eqb, leb-true, le-leb}
use Rattle.vectors.specs.Counts.{count}
use Rattle.vectors.specs.Layers.{layer}
use Rattle.vectors.specs.Lists.{same}
use Rattle.vectors.specs.Residues.{Residues}
use Rattle.vectors.proofs.Layers.{length-layer}
use Rattle.relation.specs.Laws.{RelationLaws, KeyNumbers}
use Rattle.relation_laws.specs.Products.{product}
use Rattle.relation_laws.specs.Statements.{Statement, within}
use Rattle.relation_laws.specs.Short.{size, sizes_within, residue, digits, digit_layers, combined, gathered, thirds, short, short_product, short_fault_within}
use Rattle.relation_laws.specs.Lawful.{ShortLawful}
use Rattle.relation_laws.proofs.Counts.{Only}
use Rattle.relation_laws.proofs.Digits.{digits_range, digits_fit}
use Rattle.relation_laws.proofs.Gathering.{combined-plus, length-combined, residues_gathered, sizes-gathered, length-digit_layers, digit_layers-below, digit_layers-thirds, gathered_split}
use Rattle.relation_laws.proofs.Lists.{same_true, eq_same, all_from_layers}
use Rattle.relation_laws.proofs.Made.{Made, made, none_parts, key_number, no_number, within_true}
use Rattle.relation_laws.proofs.Products.{product-plus, product_residues}
use Rattle.relation_laws.proofs.Thirds.{units, only_from_thirds, thirds_rearranged, rearranged_from_thirds}

decides-sizes : (most : ℕ) (key : List ℤ) → Decides (sizes_within most key) (AllByRecursion (λ z. size z ≤ most) key)
decides-sizes most key =
    Decides-by_and (λ z. leb (size z) most) (λ z. size z ≤ most) (sizes_within most) (λ z. (leb-true (size z) most, le-leb (size z) most)) refl (λ _ _. refl) key

module _ (s : Statement) where
  -- what a key of the statement has, for entries of at most this size
  pub record ShortKey (most : ℕ) (key : List ℤ) : Type 0 where
    pub long : length key ≡ s.columns
    pub small : AllByRecursion (λ z. size z ≤ most) key
    pub image : short_product s key ≡ s.target

  pub short_key : (most : ℕ) (key : List ℤ) → short_fault_within s most key ≡ None → ShortKey most key
  short_key most key h =
      let long = none_parts (eqb (length key) s.columns) _ 21 h in
      let small = none_parts (sizes_within most key) _ 22 long.1 in
      let image = none_parts (same (short_product s key) s.target) None 24 small.1 in
      record {
        long = eqb-true (length key) s.columns long.0;
        small = (decides-sizes most key).0 small.0;
        image = same_true (short_product s key) s.target image.0;
      }

  pub short_key_none : (most : ℕ) (key : List ℤ) → ShortKey most key → short_fault_within s most key ≡ None
  short_key_none most key k =
      cond-true (eqb (length key) s.columns) _ (Some 21) (eq-eqb (length key) s.columns k.long)
      ∙ cond-true (sizes_within most key) _ (Some 22) ((decides-sizes most key).1 k.small)
      ∙ cond-true (same (short_product s key) s.target) None (Some 24) (eq_same (short_product s key) s.target k.image)

  module _ (q : (3 ≤ s.q) × (s.q ≤ 65535)) (bound : (1 ≤ s.bound) × (s.bound ≤ 32767)) (m : Made (within 3 65535 s.q) (within 1 32767 s.bound) s) where
    abbrev K : ℕ
    K = digits s.bound

    abbrev N : ℕ
    N = 3 * s.columns

    -- the image of layers
    abbrev image_of : List ℕ → List ℕ
    image_of zs = product s.q s.columns s.rows s.matrix (combined s.q s.columns K zs)

    abbrev split : List ℤ → List ℕ
    split key = digit_layers s.q s.columns 0 K key

    abbrev gather : List ℕ → List ℤ
    gather zs = gathered s.q s.columns K zs

    split_residues : (key : List ℤ) → ShortKey s.bound key → Residues s.q (K * N) (split key)
    split_residues key k = (length-digit_layers s.q s.columns key q.0 k.long 0 K, digit_layers-below s.q s.columns key q.0 k.long 0 K)

    gather_split : (key : List ℤ) → ShortKey s.bound key → gather (split key) ≡ key
    gather_split key k =
        gathered_split s.q s.columns key q.0 k.long K
        (All-weaker (λ z. size z ≤ s.bound) (λ z. size z < 2 ^ K) (λ z l. omega (arith, digits_fit s.bound bound.1)) key k.small)

    product-gather : (zs : List ℕ) → AllByRecursion (λ x. x < s.q) zs → short_product s (gather zs) ≡ image_of zs
    product-gather zs l = ap (product s.q s.columns s.rows s.matrix) (residues_gathered s.q s.columns K zs (omega arith) l)

    only_from_shapes : (zs : List ℕ) → length zs ≡ K * N → ((j : ℕ) → j < K → thirds s.q s.columns (layer N j zs) ≡ true) → Only (units s.q) zs
    only_from_shapes zs e h =
        all_from_layers (λ x. 0 < count x (units s.q)) N K zs e
        (λ j l. only_from_thirds s.q s.columns (layer N j zs) q.0 (length-layer N K zs j e l) (h j l))

    length-gather : (zs : List ℕ) → Residues s.q (K * N) zs → length (gather zs) ≡ s.columns
    length-gather zs h =
        sym (length-map (gather zs) (residue s.q)) ∙ ap length (residues_gathered s.q s.columns K zs (omega arith) h.1)
        ∙ length-combined s.q s.columns K zs h.0

    laws : RelationLaws (short s)
    laws = record {
      q_range = (omega arith, q.1);
      layer_count_range = digits_range s.bound bound.0;
      layer_len_range = (omega arith, omega arith);
      free_len_range = omega arith;
      image_len_range = m.rows_range;
      shape_rearranged = λ j xs ys l hx h. thirds_rearranged s.q s.columns xs ys h;
      shape_alike = λ j xs ys l hx hy ex ey. rearranged_from_thirds s.q s.columns xs ys q.0 hx.0 hy.0 ex ey;
      target_residues = m.target_residues;
      image_residues = λ zs t hz ht. product_residues s.q s.columns s.rows s.matrix (combined s.q s.columns K zs) (omega arith);
      image_plus = λ zs zs' t t' hz hz' ht ht'.
          ap (product s.q s.columns s.rows s.matrix) (combined-plus s.q s.columns K zs zs')
          ∙ product-plus s.q s.columns s.rows s.matrix (combined s.q s.columns K zs) (combined s.q s.columns K zs')
          (length-combined s.q s.columns K zs hz.0 ∙ sym (length-combined s.q s.columns K zs' hz'.0));
      split_layers = λ key h. split_residues key (short_key s.bound key h);
      split_free = λ key h. (refl, tt);
      split_shaped = λ key h j l. digit_layers-thirds s.q s.columns key q.0 (short_key s.bound key h).long K j l;
      split_image = λ key h.
          let k = short_key s.bound key h in
          sym (product-gather (split key) (split_residues key k).1) ∙ ap (short_product s) (gather_split key k) ∙ k.image;
      gather_extracted = λ zs t hz ht hs e.
          ap (λ fault. not (is_some fault))
          (short_key_none (2 ^ K - 1) (gather zs)
          (record {
            long = length-gather zs hz;
            small = sizes-gathered s.q s.columns K zs (only_from_shapes zs hz.0 hs);
            image = product-gather zs hz.1 ∙ e;
          }));
      gather_split = λ key h. gather_split key (short_key s.bound key h);
    }

pub short_numbers : (s : Statement) → KeyNumbers (short s)
short_numbers s key n =
    key_number (eqb (length key) s.columns) _ 21 n (omega arith) (omega arith)
    (key_number (sizes_within s.bound key) _ 22 n (omega arith) (omega arith)
    (key_number (same (short_product s key) s.target) None 24 n (omega arith) (omega arith) (no_number n)))

pub short_lawful : ShortLawful
short_lawful s h =
    let m = made (within 3 65535 s.q) (within 1 32767 s.bound) s h in
    laws s (within_true 3 65535 s.q m.q_holds) (within_true 1 32767 s.bound m.bound_holds) m
