-- The weight relation: a key is a list of zeros and ones, a stated number of them ones, with A·key = target.
use Rattle.std.specs.Prelude.{ℕ, cond, not, List, [], length, is_some, Some, None, Option, ◌==◌}
use Rattle.vectors.specs.Counts.{count}
use Rattle.vectors.specs.Residues.{below}
use Rattle.vectors.specs.Lists.{same}
use Rattle.relation.specs.Meaning.{RelationMeaning}
use Rattle.relation_laws.specs.Products.{product, ones}
use Rattle.relation_laws.specs.Statements.{Statement}

module _ (s : Statement) where
  abbrev pub weight_image : List ℕ → List ℕ
  weight_image z = product s.q s.columns s.rows s.matrix z

  abbrev pub weight_key_fault : List ℕ → Option ℕ
  weight_key_fault key =
      cond (length key == s.columns)
      (cond (below 2 key)
      (cond (count 1 key == s.bound)
      (cond (same (weight_image key) s.target) None (Some 24))
      (Some 23))
      (Some 22))
      (Some 21)

  abbrev pub weight : RelationMeaning ℕ
  weight = record {
    q = s.q;
    key_len = s.columns;
    layer_count = 1;
    layer_len = s.columns;
    free_len = 0;
    image_len = s.rows;
    shape = λ j layer. ones s.bound layer;
    image = λ layers free. weight_image layers;
    target = s.target;
    key_fault = weight_key_fault;
    split_layers = λ key. key;
    split_free = λ key. [];
    gather = λ layers free. layers;
    extracted = λ key. not (is_some (weight_key_fault key));
  }
