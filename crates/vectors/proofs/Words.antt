-- Numbers as two bytes each: writing and reading undo each other, and a list written number by number.
use Rattle.std.proofs.Common.{◌≡◌, ℕ, zero, suc, ◌+◌, ◌*◌, ◌/◌, ◌%◌, ◌<◌, ◌≤◌, List, [], ◌∷◌, ◌++◌, length, map, get_or, take, set, sym, refl, ap, ◌∙◌, ap₂, arith}
use Rattle.std.specs.List.{AllByRecursion}
use Rattle.std.specs.Simd.{first_chunks}
use Rattle.std.proofs.lemmas.List.{length-take-le, take_more}
use Rattle.vectors.specs.Over.{over}
use Rattle.vectors.specs.Words.{bytes, words}
use Rattle.vectors.proofs.Over.{length_over, over_behind, over-two}

pub length_bytes : (xs : List ℕ) → length (bytes xs) ≡ 2 * length xs
length_bytes [] = refl
length_bytes (x ∷ xs) = let e = length_bytes xs in omega arith

pub bytes-append : (xs ys : List ℕ) → bytes (xs ++ ys) ≡ bytes xs ++ bytes ys
bytes-append [] ys = refl
bytes-append (x ∷ xs) ys = ap (λ rest. x / 256 ∷ x % 256 ∷ rest) (bytes-append xs ys)

-- one number more
pub bytes_more : (xs : List ℕ) (i : ℕ) → i < length xs → bytes (take (i + 1) xs) ≡ bytes (take i xs) ++ (get_or xs i 0 / 256 ∷ get_or xs i 0 % 256 ∷ [])
bytes_more xs i h = ap bytes (take_more xs i 0 h) ∙ bytes-append (take i xs) (get_or xs i 0 ∷ [])

-- one number more, written behind those before it
pub over-bytes_more : (old mid : List ℕ) (at : ℕ) (xs : List ℕ) (i : ℕ) → i < length xs → at + 2 * length xs ≤ length old → mid ≡ over old at (bytes (take i xs))
    → set (set mid (at + 2 * i) (get_or xs i 0 / 256)) (at + 2 * i + 1) (get_or xs i 0 % 256) ≡ over old at (bytes (take (i + 1) xs))
over-bytes_more old mid at xs i h f e =
    let x : ℕ = get_or xs i 0 in
    let t = length-take-le i xs (omega arith) in
    let b = length_bytes (take i xs) in
    let n = length_over old at (bytes (take i xs)) (omega arith) in
    let m = ap length e in
    over_behind old mid (set (set mid (at + 2 * i) (x / 256)) (at + 2 * i + 1) (x % 256)) at (at + 2 * i) (bytes (take i xs)) (x / 256 ∷ x % 256 ∷ []) e (omega arith) (omega arith)
    (over-two mid (at + 2 * i) (x / 256) (x % 256) (omega arith))
    ∙ ap (over old at) (sym (bytes_more xs i h))

pub words-bytes : (xs : List ℕ) → words (bytes xs) ≡ xs
words-bytes [] = refl
words-bytes (x ∷ xs) = ap₂ (λ y ys. y ∷ ys) (let e : x / 256 * 256 + x % 256 ≡ x = omega arith in e) (words-bytes xs)

pub bytes_injective : (xs ys : List ℕ) → bytes xs ≡ bytes ys → xs ≡ ys
bytes_injective xs ys e = sym (words-bytes xs) ∙ ap words e ∙ words-bytes ys

pub bytes-words : (n : ℕ) (bs : List ℕ) → length bs ≡ 2 * n → AllByRecursion (λ b. b < 256) bs → bytes (words bs) ≡ bs
bytes-words n [] e h = refl
bytes-words n (x ∷ []) e h = absurd (omega arith)
bytes-words zero (x ∷ y ∷ bs) e h = absurd (omega arith)
bytes-words (suc n) (x ∷ y ∷ bs) e (hx, (hy, h)) =
    let high : (x * 256 + y) / 256 ≡ x = omega arith in
    let low : (x * 256 + y) % 256 ≡ y = omega arith in
    let rest : bytes (words bs) ≡ bs = bytes-words n bs (omega arith) h in
    cc

-- the numbers, pair by pair
pub words_by_pairs : (bs : List ℕ) → words bs ≡ map (λ pair. get_or pair 0 0 * 256 + get_or pair 1 0) (first_chunks 2 (length bs / 2) bs)
words_by_pairs [] = refl
words_by_pairs (x ∷ []) = refl
words_by_pairs (x ∷ y ∷ bs) =
    let n : length (x ∷ y ∷ bs) / 2 ≡ suc (length bs / 2) = omega arith in
    ap (λ xs. (x * 256 + y) ∷ xs) (words_by_pairs bs) ∙ ap (λ m. map (λ pair. get_or pair 0 0 * 256 + get_or pair 1 0) (first_chunks 2 m (x ∷ y ∷ bs))) (sym n)

pub length-words : (n : ℕ) (bs : List ℕ) → length bs ≡ 2 * n → length (words bs) ≡ n
length-words n [] e = omega arith
length-words n (x ∷ []) e = absurd (omega arith)
length-words zero (x ∷ y ∷ bs) e = absurd (omega arith)
length-words (suc n) (x ∷ y ∷ bs) e = ap suc (length-words n bs (omega arith))
