-- The short relation: a key is a list of whole numbers of bounded size with A·key = target. Its layers are the binary digits
-- of the sizes, with the entries' signs, filled up so that 0, 1 and −1 stand equally often.
use Rattle.std.specs.Prelude.{ℕ, zero, suc, ◌-◌, ◌*◌, ◌/◌, ◌%◌, ◌^◌, Bool, true, cond, not, ◌&&◌, List, [], ◌∷◌, ◌++◌, map, length, take, drop, replicate, ℤ, pos, negsuc, ◌+ℤ◌, is_some, Some, None, Option, ◌==◌, nat_le}
use Rattle.vectors.specs.Counts.{count}
use Rattle.vectors.specs.Residues.{plus}
use Rattle.vectors.specs.Lists.{same}
use Rattle.relation.specs.Meaning.{RelationMeaning}
use Rattle.relation_laws.specs.Products.{product}
use Rattle.relation_laws.specs.Statements.{Statement}

abbrev pub size : ℤ → ℕ
size (pos n) = n
size (negsuc n) = suc n

-- each entry has at most this size
abbrev pub sizes_within : ℕ → List ℤ → Bool
sizes_within most [] = true
sizes_within most (x ∷ xs) = nat_le (size x) most && sizes_within most xs

-- a whole number modulo q
abbrev pub residue : ℕ → ℤ → ℕ
residue q (pos n) = n % q
residue q (negsuc n) = (q - suc n % q) % q

-- how many binary digits n has, looked for among the first so many
abbrev pub digits_among : ℕ → ℕ → ℕ
digits_among zero n = 0
digits_among (suc places) n = cond (n == 0) 0 (suc (digits_among places (n / 2)))

-- the number of binary digits of a bound, which is at most 32,767
abbrev pub digits : ℕ → ℕ
digits n = digits_among 15 n

-- a digit with a sign, −1 written q − 1
abbrev pub signed_digit : ℕ → ℕ → ℤ → ℕ
signed_digit q j (pos n) = n / 2 ^ j % 2
signed_digit q j (negsuc n) = cond (suc n / 2 ^ j % 2 == 1) (q - 1) 0

-- behind the digits as many q − 1, then 0, then 1 as bring each to m
abbrev pub filled : ℕ → ℕ → List ℕ → List ℕ
filled q m digits = digits ++ (replicate (m - count (q - 1) digits) (q - 1) ++ (replicate (m - count 0 digits) 0 ++ replicate (m - count 1 digits) 1))

-- the layers from j on, `left` of them
abbrev pub digit_layers : ℕ → ℕ → ℕ → ℕ → List ℤ → List ℕ
digit_layers q m j zero key = []
digit_layers q m j (suc left) key = filled q m (map (signed_digit q j) key) ++ digit_layers q m (suc j) left key

-- the first m entries of the sum of 2^j·z_j modulo q, where each z_j has 3·m entries
abbrev pub combined : ℕ → ℕ → ℕ → List ℕ → List ℕ
combined q m zero zs = replicate m 0
combined q m (suc layers) zs = plus q (take m zs) (map (λ x. 2 * x % q) (combined q m layers (drop (3 * m) zs)))

-- q − 1 read as −1
abbrev pub signed : ℕ → ℕ → ℤ
signed q x = cond (x == q - 1) (negsuc 0) (pos x)

-- x + 2·y, entry by entry
abbrev pub with_doubled : List ℤ → List ℤ → List ℤ
with_doubled [] ys = []
with_doubled (x ∷ xs) [] = []
with_doubled (x ∷ xs) (y ∷ ys) = (x +ℤ (y +ℤ y)) ∷ with_doubled xs ys

-- the same sum in whole numbers
abbrev pub gathered : ℕ → ℕ → ℕ → List ℕ → List ℤ
gathered q m zero zs = replicate m (pos 0)
gathered q m (suc layers) zs = with_doubled (map (signed q) (take m zs)) (gathered q m layers (drop (3 * m) zs))

-- m each of 0, 1 and q − 1
abbrev pub thirds : ℕ → ℕ → List ℕ → Bool
thirds q m xs = count 0 xs == m && (count 1 xs == m && count (q - 1) xs == m)

module _ (s : Statement) where
  -- A·key modulo q
  abbrev pub short_product : List ℤ → List ℕ
  short_product key = product s.q s.columns s.rows s.matrix (map (residue s.q) key)

  -- the rule of a key, for entries of at most this size
  abbrev pub short_fault_within : ℕ → List ℤ → Option ℕ
  short_fault_within most key =
      cond (length key == s.columns)
      (cond (sizes_within most key)
      (cond (same (short_product key) s.target) None (Some 24))
      (Some 22))
      (Some 21)

  abbrev pub short : RelationMeaning ℤ
  short = record {
    q = s.q;
    key_len = s.columns;
    layer_count = digits s.bound;
    layer_len = 3 * s.columns;
    free_len = 0;
    image_len = s.rows;
    shape = λ j layer. thirds s.q s.columns layer;
    image = λ layers free. product s.q s.columns s.rows s.matrix (combined s.q s.columns (digits s.bound) layers);
    target = s.target;
    key_fault = short_fault_within s.bound;
    split_layers = λ key. digit_layers s.q s.columns 0 (digits s.bound) key;
    split_free = λ key. [];
    gather = λ layers free. gathered s.q s.columns (digits s.bound) layers;
    extracted = λ key. not (is_some (short_fault_within (2 ^ digits s.bound - 1) key));
  }
