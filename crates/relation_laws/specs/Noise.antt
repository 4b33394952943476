-- The noise relation, modulo 2: a key is a list of zeros and ones such that target − A·key has a stated number of ones.
use Rattle.std.specs.Prelude.{ℕ, cond, not, List, length, is_some, Some, None, Option, ◌==◌}
use Rattle.vectors.specs.Counts.{count}
use Rattle.vectors.specs.Residues.{below, plus, minus}
use Rattle.relation.specs.Meaning.{RelationMeaning}
use Rattle.relation_laws.specs.Products.{product, ones}
use Rattle.relation_laws.specs.Statements.{Statement}

module _ (s : Statement) where
  -- A·t
  abbrev pub noise_free : List ℕ → List ℕ
  noise_free t = product s.q s.columns s.rows s.matrix t

  -- target − A·key
  abbrev pub noise_of : List ℕ → List ℕ
  noise_of key = minus s.q s.target (noise_free key)

  abbrev pub noise_key_fault : List ℕ → Option ℕ
  noise_key_fault key =
      cond (length key == s.columns)
      (cond (below 2 key)
      (cond (count 1 (noise_of key) == s.bound) None (Some 23))
      (Some 22))
      (Some 21)

  abbrev pub noise : RelationMeaning ℕ
  noise = record {
    q = s.q;
    key_len = s.columns;
    layer_count = 1;
    layer_len = s.rows;
    free_len = s.columns;
    image_len = s.rows;
    shape = λ j layer. ones s.bound layer;
    image = λ layers free. plus s.q (noise_free free) layers;
    target = s.target;
    key_fault = noise_key_fault;
    split_layers = noise_of;
    split_free = λ key. key;
    gather = λ layers free. free;
    extracted = λ key. not (is_some (noise_key_fault key));
  }
