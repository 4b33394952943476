-- Fields written over an output, one behind another.
use Rattle.std.proofs.Common.{◌≡◌, ℕ, ◌+◌, ◌*◌, ◌/◌, ◌%◌, ◌<◌, ◌≤◌, true, cond, ◌&&◌, leb, List, [], ◌∷◌, length, get_or, take, drop, set, Some, None, sym, refl, ap, ◌∙◌, mul-le-mul_right, zero-mul, arith, take-add}
use Rattle.std.proofs.lemmas.List.{length-append, length-map, length-set, length-take-le, take_all, drop_more, get_or-map}
use Rattle.std.proofs.lemmas.Bool.Decides.{nat_tests}
use Rattle.vectors.specs.Layers.{layer, permuted_layers}
use Rattle.vectors.specs.Over.{over}
use Rattle.vectors.specs.Permutations.{permuted}
use Rattle.vectors.specs.Words.{bytes}
use Rattle.vectors.proofs.Actions.{length-permuted_layers, layer-permuted_layers}
use Rattle.vectors.proofs.Layers.{row_within}
use Rattle.vectors.proofs.Over.{over_none, over-one, over-two, over_behind}
use Rattle.vectors.proofs.Words.{bytes-append, length_bytes}
use Rattle.messages.specs.Fields.{field, written}
use Rattle.messages.specs.Contents.{commitments_written}
use Rattle.messages.specs.Writing.{Wrote, three_fit, commitments_fault}

head-over : (old : List ℕ) (at tag high low : ℕ) → at + 3 ≤ length old → set (set (set old at tag) (at + 1) high) (at + 2) low ≡ over old at (tag ∷ high ∷ low ∷ [])
head-over old at tag high low h =
    let n = length-set old at tag in
    let m = length-set (set old at tag) (at + 1) high in
    over_behind old (set (set old at tag) (at + 1) high) (set (set (set old at tag) (at + 1) high) (at + 2) low) at (at + 2) (tag ∷ high ∷ []) (low ∷ []) (over-two old at tag high (omega arith)) refl (omega arith)
    (over-one (set (set old at tag) (at + 1) high) (at + 2) low (omega arith))

-- a head byte by byte, and the content behind it
pub field-over : (old mid new : List ℕ) (at tag size : ℕ) (content : List ℕ) → length content ≡ size → at + 3 + size ≤ length old
    → mid ≡ set (set (set old at tag) (at + 1) (size / 256)) (at + 2) (size % 256) → new ≡ over mid (at + 3) content → new ≡ over old at (field tag content)
field-over old mid new at tag size content n h e f =
    over_behind old mid new at (at + 3) (tag ∷ size / 256 ∷ size % 256 ∷ []) content (e ∙ head-over old at tag (size / 256) (size % 256) (omega arith)) refl (omega arith) f
    ∙ ap (λ k. over old at (tag ∷ k / 256 ∷ k % 256 ∷ content)) (sym n)

-- m numbers more of a list that is written number by number
over-bytes-part : (xs : List ℕ) (n m : ℕ) (old mid new : List ℕ) (at : ℕ) → n + m ≤ length xs → at + 2 * length xs ≤ length old
    → mid ≡ over old at (bytes (take n xs)) → new ≡ over mid (at + 2 * n) (bytes (take m (drop n xs))) → new ≡ over old at (bytes (take (n + m) xs))
over-bytes-part xs n m old mid new at l h e f =
    let t = length-take-le n xs (omega arith) in
    let b = length_bytes (take n xs) in
    over_behind old mid new at (at + 2 * n) (bytes (take n xs)) (bytes (take m (drop n xs))) e (omega arith) (omega arith) f
    ∙ ap (over old at) (sym (bytes-append (take n xs) (take m (drop n xs))) ∙ ap bytes (sym (take-add n m xs)))

pub over-permuted_more : (p b : List ℕ) (i : ℕ) (old mid new : List ℕ) (at : ℕ) → i < length p → at + 2 * length p ≤ length old
    → mid ≡ over old at (bytes (take i (permuted p b))) → new ≡ over mid (at + 2 * i) (bytes (get_or b (get_or p i 0) 0 ∷ [])) → new ≡ over old at (bytes (take (i + 1) (permuted p b)))
over-permuted_more p b i old mid new at l h e f =
    let xs : List ℕ = permuted p b in
    let n = length-map p (λ k. get_or b k 0) in
    let v = get_or-map (λ k. get_or b k 0) p i 0 0 l in
    let d : get_or b (get_or p i 0) 0 ∷ [] ≡ take 1 (drop i xs) = ap (λ x. x ∷ []) (sym v) ∙ ap (take 1) (sym (drop_more xs i 0 (omega arith))) in
    over-bytes-part xs i 1 old mid new at (omega arith) (omega arith) e (f ∙ ap (λ part. over mid (at + 2 * i) (bytes part)) d)

pub over-layers_more : (N K : ℕ) (ps zs : List ℕ) (j : ℕ) (old mid new : List ℕ) (at : ℕ) → length ps ≡ K * N → j < K → at + 2 * (K * N) ≤ length old
    → mid ≡ over old at (bytes (take (j * N) (permuted_layers N K ps zs))) → new ≡ over mid (at + 2 * (j * N)) (bytes (permuted (layer N j ps) (layer N j zs)))
    → new ≡ over old at (bytes (take ((j + 1) * N) (permuted_layers N K ps zs)))
over-layers_more N K ps zs j old mid new at n l h e f =
    let xs : List ℕ = permuted_layers N K ps zs in
    let w = row_within j K N l in
    let m = length-permuted_layers N K ps zs n in
    let s : j * N + N ≡ (j + 1) * N = omega arith in
    over-bytes-part xs (j * N) N old mid new at (omega arith) (omega arith) e (f ∙ ap (λ part. over mid (at + 2 * (j * N)) (bytes part)) (sym (layer-permuted_layers N K ps zs n j l)))
    ∙ ap (λ k. over old at (bytes (take k xs))) s

pub over-layers_none : (N : ℕ) (old : List ℕ) (at : ℕ) (xs : List ℕ) → old ≡ over old at (bytes (take (0 * N) xs))
over-layers_none N old at xs = sym (ap (λ k. over old at (bytes (take k xs))) (zero-mul N) ∙ over_none old at)

pub over-layers_all : (N K : ℕ) (ps zs : List ℕ) (j : ℕ) (old new : List ℕ) (at : ℕ) → length ps ≡ K * N → K ≤ j
    → new ≡ over old at (bytes (take (j * N) (permuted_layers N K ps zs))) → new ≡ over old at (bytes (permuted_layers N K ps zs))
over-layers_all N K ps zs j old new at n l e =
    let m = mul-le-mul_right N l in
    let k = length-permuted_layers N K ps zs n in
    e ∙ ap (λ xs. over old at (bytes xs)) (take_all (j * N) (permuted_layers N K ps zs) (omega arith))

pub length-permuted-bytes : (N K : ℕ) (ps zs : List ℕ) → length ps ≡ K * N → length (bytes (permuted_layers N K ps zs)) ≡ 2 * length ps
length-permuted-bytes N K ps zs n = omega (arith, length_bytes (permuted_layers N K ps zs), length-permuted_layers N K ps zs n)

-- fields were written from place `at` on, and end at n
pub record Placed (old : List ℕ) (at : ℕ) (tags : List ℕ) (parts : List (List ℕ)) (new : List ℕ) (n : ℕ) : Type 0 where
  pub after : new ≡ over old at (written tags parts)
  pub end : n ≡ at + length (written tags parts)

pub placed_none : (new : List ℕ) (n : ℕ) → Placed new n [] [] new n
placed_none new n = record { after = sym (over_none new n); end = omega arith }

-- a field with the others behind it
pub placed_more : {old mid new : List ℕ} {at m n tag : ℕ} {part tags : List ℕ} {parts : List (List ℕ)} → mid ≡ over old at (field tag part) → Placed mid m tags parts new n → at + 3 + length part ≤ length old → m ≡ at + 3 + length part
    → Placed old at (tag ∷ tags) (part ∷ parts) new n
placed_more {old} {mid} {new} {at} {m} {n} {tag} {part} {tags} {parts} e f h k = record {
  after = over_behind old mid new at m (field tag part) (written tags parts) e (omega arith) (omega arith) f.after;
  end = omega (arith, length-append part (written tags parts), f.end);
}

pub wrote : (old : List ℕ) (tags : List ℕ) (parts : List (List ℕ)) (new : List ℕ) (n : ℕ) → Placed old 0 tags parts new n → Wrote old (written tags parts) new n
wrote old tags parts new n h = record { size = omega (arith, h.end); after = h.after }

-- the length of three commitments' message
length-commitments : (one two three : List ℕ) → length (commitments_written one two three) ≡ 9 + length one + length two + length three
length-commitments one two three = simp length-append (omega arith)

pub commitments_fault_is : (room : ℕ) (one two three : List ℕ) → commitments_fault room one two three ≡ cond (three_fit room (length one) (length two) (length three)) None (Some 37)
commitments_fault_is room one two three =
    ap (λ n. cond (leb (length one) 65535 && (leb (length two) 65535 && (leb (length three) 65535 && leb n room))) None (Some 37)) (length-commitments one two three)

pub room_from_fit : (room one two three : ℕ) → three_fit room one two three ≡ true → 9 + one + two + three ≤ room
room_from_fit room one two three h = grind (arith, nat_tests)
