-- Words and their bytes, the high byte first.
use Rattle.std.proofs.Common.{◌≡◌, ℕ, ◌+◌, ◌*◌, ◌/◌, ◌%◌, List, [], map, length, get_or, sym, refl, ap, ◌∙◌}
use Rattle.std.specs.List.{range_with_len}
use Rattle.std.specs.Simd.{first_chunks}
use Rattle.std.proofs.lemmas.List.FromFn.{fill_by_all}
use Rattle.sha256.specs.Block.{words}
use Rattle.sha256.specs.Hash.{word_bytes, bytes_of}

-- the first n entries, one by one
abbrev listed : ℕ → List ℕ → List ℕ
listed n xs = map (λ i. get_or xs i 0) (range_with_len 0 n)

listed_is : (n : ℕ) (xs : List ℕ) → length xs ≡ n → xs ≡ listed n xs
listed_is n xs e = fill_by_all (λ i. get_or xs i 0) xs n 0 e (λ k h. refl)

-- the number of four bytes
abbrev pub word : List ℕ → ℕ
word b = get_or b 0 0 * 16777216 + get_or b 1 0 * 65536 + get_or b 2 0 * 256 + get_or b 3 0

pub words_made : (block : List ℕ) → length block ≡ 64 → map (λ i. word (get_or (first_chunks 4 16 block) i [])) (range_with_len 0 16) ≡ words block
words_made block e =
    let all = listed_is 64 block e in
    ap (λ b. map (λ i. word (get_or (first_chunks 4 16 b) i [])) (range_with_len 0 16)) all ∙ ap words (sym all)

pub length-words : (block : List ℕ) → length block ≡ 64 → length (words block) ≡ 16
length-words block e = ap length (sym (words_made block e))

pub bytes_made : (hash : List ℕ) → length hash ≡ 8 → map (λ i. get_or (word_bytes (get_or hash (i / 4) 0)) (i % 4) 0) (range_with_len 0 32) ≡ bytes_of hash
bytes_made hash e = ap bytes_of (sym (listed_is 8 hash e))
