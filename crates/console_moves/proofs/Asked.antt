-- What the calls ask that are made with a checked mask and with the parts of a key.
use Rattle.std.proofs.Common.{◌≡◌, ℕ, ◌*◌, ◌<◌, ◌≤◌, Bool, true, false, cond, List, length, Some, None, Option, ◌++◌, sym, ◌∙◌, arith}
use Rattle.std.proofs.lemmas.Nat.{mul-le}
use Rattle.vectors.specs.Residues.{below, Residues}
use Rattle.vectors.specs.Words.{bytes}
use Rattle.vectors.proofs.Residues.{below_from_all}
use Rattle.vectors.proofs.Words.{length_bytes, bytes-append}
use Rattle.relation.specs.Meaning.{RelationMeaning, Key, Layers, Free}
use Rattle.relation.specs.Laws.{RelationLaws}
use Rattle.relation.specs.Faults.{split_fault}
use Rattle.commitment.specs.Meaning.{SchemeMeaning, SchemeLaws}
use Rattle.masks.specs.Mask.{Mask, WellFormed, coin_string}
use Rattle.messages.specs.declared.challenge.Challenge.TheVariants.{Three}
use Rattle.messages.specs.Contents.{answer_slots}
use Rattle.messages.specs.Writing.{LongFits}
use Rattle.moves.specs.Causes.{sizes}
use Rattle.moves.specs.Sizes.{total_size}
use Rattle.moves.proofs.Completeness.{length-coin_string}
use Rattle.openings.proofs.Positions.{permutations-below}

-- the bytes of two lists, one behind the other
pub bytes_of_both : (xs ys : List ℕ) → bytes (xs ++ ys) ≡ bytes xs ++ bytes ys
bytes_of_both xs ys = bytes-append xs ys

-- two lists of as many residues can be added
pub addable : (q n : ℕ) (xs ys : List ℕ) → Residues q n xs → Residues q n ys → (length xs ≡ length ys) × ((below q xs ≡ true) × (below q ys ≡ true))
addable q n xs ys hx hy = (hx.0 ∙ sym hy.0, (below_from_all q xs hx.1, below_from_all q ys hy.1))

none_cond : (b : Bool) (o : Option ℕ) (n : ℕ) → cond b o (Some n) ≡ None → o ≡ None
none_cond true o n h = h
none_cond false o n h = cc

module _ {E : Type 0} (relation : RelationMeaning E) where
  -- a key that was split, into slices of the lengths a and b, is a key of the statement
  pub key_from_split : (key : List E) (a b : ℕ) → split_fault relation key a b ≡ None → Key relation key
  key_from_split key a b h = none_cond _ (relation.key_fault key) 16 h

  module _ (width : ℕ) (mask : Mask) (formed : WellFormed relation width mask) where
    pub permutations_long : length (bytes mask.permutations) ≡ 2 * (relation.layer_count * relation.layer_len)
    permutations_long = omega (arith, length_bytes mask.permutations, formed.permutations.size)

    pub permutations_within : below relation.layer_len mask.permutations ≡ true
    permutations_within = permutations-below relation.layer_len relation.layer_count mask.permutations formed.permutations

    pub string_long : (i : ℕ) → i < 3 → length (coin_string width i mask.coins) ≡ width
    string_long i l = length-coin_string width mask.coins i formed.coins l

  module _ (laws : RelationLaws relation) where
    pub layers_from_split : (key : List E) (a b : ℕ) → split_fault relation key a b ≡ None → Layers relation (relation.split_layers key)
    layers_from_split key a b h = laws.split_layers key (key_from_split key a b h)

    pub free_from_split : (key : List E) (a b : ℕ) → split_fault relation key a b ≡ None → Free relation (relation.split_free key)
    free_from_split key a b h = laws.split_free key (key_from_split key a b h)

    pub few : relation.layer_count * relation.layer_len ≤ 11520
    few = mul-le relation.layer_count relation.layer_len 15 768 (omega (arith, laws.layer_count_range)) (omega (arith, laws.layer_len_range))

    -- the answers to challenges 2 and 3 have fields of the same lengths
    pub long_fits : (scheme : SchemeMeaning) → SchemeLaws scheme → (room : ℕ) (p zs t lower upper : List ℕ) → length p ≡ relation.layer_count * relation.layer_len → length zs ≡ relation.layer_count * relation.layer_len → length t ≡ relation.free_len
        → length lower ≡ scheme.width → length upper ≡ scheme.width → total_size (answer_slots Three (sizes relation scheme)) ≤ room → LongFits room p zs t lower upper
    long_fits scheme scheme_laws room p zs t lower upper a b c d e fits =
        let f = few in
        let r = laws.free_len_range in
        let h = scheme_laws.width_high in
        record {
          fields = omega arith;
          permutations_short = omega arith;
          layers_short = omega arith;
          free_short = omega arith;
          lower_short = omega arith;
          upper_short = omega arith;
        }
