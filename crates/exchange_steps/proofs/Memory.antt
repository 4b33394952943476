-- What memory holds after commitments, a record or an answer were written into it.
use Rattle.std.proofs.Common.{◌≡◌, ℕ, ◌+◌, ◌<◌, ◌≤◌, List, ◌++◌, map, length, take, drop, None, sym, ap, ◌∙◌, arith}
use Rattle.std.specs.List.{range_with_len}
use Rattle.std.proofs.lemmas.List.{append_assoc, length-take-le, take-append-le, take-take, take_at, drop_at, drop-take}
use Rattle.std.proofs.lemmas.List.FromFn.{length-map-range_with_len, get_or-map-range_with_len, fill_by_all}
use Rattle.vectors.specs.Layers.{layer}
use Rattle.vectors.specs.Over.{over}
use Rattle.vectors.proofs.Layers.{layer-zero, layer-suc}
use Rattle.messages.specs.Reading.{reading_fault}
use Rattle.messages.specs.Contents.{commitment_slots}
use Rattle.messages.proofs.RoundTrip.{contents_sized}
use Rattle.moves.specs.Moves.{Triple}
use Rattle.exchange_steps.specs.State.{commitments_in}
use Rattle.exchange_steps.specs.Steps.{read_triple}

take-over-before : {A : Type 0} (old : List A) (at : ℕ) (part : List A) (k : ℕ) → k ≤ at → at ≤ length old → take k (over old at part) ≡ take k old
unfolding over
take-over-before old at part k h l =
    take-append-le k (take at old) (part ++ drop (at + length part) old) (omega (arith, length-take-le at old l)) ∙ take-take k at old h

-- a part that ends before the place of writing is left
pub part-before : {A : Type 0} (old : List A) (at : ℕ) (part : List A) (start len : ℕ) → start + len ≤ at → at ≤ length old
    → take len (drop start (over old at part)) ≡ take len (drop start old)
part-before old at part start len h l =
    sym (drop-take start len (over old at part)) ∙ ap (drop start) (take-over-before old at part (start + len) h l) ∙ drop-take start len old

pub same_counted : {A : Type 0} (f g : ℕ → A) (n : ℕ) → ((i : ℕ) → i < n → f i ≡ g i) → A → map f (range_with_len 0 n) ≡ map g (range_with_len 0 n)
same_counted f g n h d =
    fill_by_all g (map f (range_with_len 0 n)) n d (length-map-range_with_len f 0 n) (λ k l. get_or-map-range_with_len f 0 n k k d l (omega arith) ∙ h k l)

layers_of_three : (width : ℕ) (one two three rest : List ℕ) → length one ≡ width → length two ≡ width → length three ≡ width
    → commitments_in width (one ++ (two ++ (three ++ rest))) ≡ record { one = one; two = two; three = three }
layers_of_three width one two three rest a b c =
    let d = drop_at one (two ++ (three ++ rest)) width a in
    let e = drop_at two (three ++ rest) width b in
    let first : layer width 0 (one ++ (two ++ (three ++ rest))) ≡ one = layer-zero width _ ∙ take_at one (two ++ (three ++ rest)) width a in
    let second : layer width 1 (one ++ (two ++ (three ++ rest))) ≡ two =
    layer-suc width 0 (one ++ (two ++ (three ++ rest))) ∙ ap (layer width 0) d ∙ layer-zero width (two ++ (three ++ rest)) ∙ take_at two (three ++ rest) width b in
    let third : layer width 2 (one ++ (two ++ (three ++ rest))) ≡ three =
    layer-suc width 1 (one ++ (two ++ (three ++ rest))) ∙ ap (layer width 1) d ∙ layer-suc width 0 (two ++ (three ++ rest)) ∙ ap (layer width 0) e
    ∙ layer-zero width (three ++ rest) ∙ take_at three rest width c in
    λ i. record { one = first i; two = second i; three = third i }

commitments-over : (width : ℕ) (row : List ℕ) (c : Triple) → length c.one ≡ width → length c.two ≡ width → length c.three ≡ width
    → commitments_in width (over row 0 (c.one ++ (c.two ++ c.three))) ≡ c
unfolding over
commitments-over width row c x y z =
    let rest : List ℕ = drop (0 + length (c.one ++ (c.two ++ c.three))) row in
    ap (commitments_in width) (append_assoc c.one (c.two ++ c.three) rest ∙ ap (λ t. c.one ++ t) (append_assoc c.two c.three rest))
    ∙ layers_of_three width c.one c.two c.three rest x y z

-- commitments that were read and written stand at the start of the row
pub commitments_read : (width : ℕ) (row message : List ℕ) → reading_fault (commitment_slots width) 0 message ≡ None
    → commitments_in width (over row 0 ((read_triple width message).one ++ ((read_triple width message).two ++ (read_triple width message).three))) ≡ read_triple width message
commitments_read width row message h =
    let s = contents_sized (commitment_slots width) 0 message h in
    commitments-over width row (read_triple width message) (cc) (cc) (cc)
