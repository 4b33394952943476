-- Numbers that are read from a part of a message, in pieces.
use Rattle.std.proofs.Common.{◌≡◌, ℕ, zero, suc, ◌+◌, ◌-◌, ◌*◌, List, [], ◌∷◌, length, take, drop, refl, ap, ◌∙◌, arith}
use Rattle.vectors.specs.Words.{words}
use Rattle.vectors.proofs.Words.{length_bytes, length-words}
use Rattle.vectors.specs.declared.part.Part.{Part}
use Rattle.vectors.specs.declared.part.Part.TheVariants.{Bytes, Words}
use Rattle.vectors.specs.Parts.{content}
use Rattle.openings.specs.Shown.{numbers_in}

pub words-drop : (k : ℕ) (bs : List ℕ) → words (drop (2 * k) bs) ≡ drop k (words bs)
words-drop zero bs = refl
words-drop (suc k) [] = let e : 2 * suc k ≡ suc (2 * k + 1) = omega arith in ap (λ n. words (drop n [])) e
words-drop (suc k) (x ∷ []) = let e : 2 * suc k ≡ suc (suc (2 * k)) = omega arith in ap (λ n. words (drop n (x ∷ []))) e
words-drop (suc k) (x ∷ y ∷ bs) = let e : 2 * suc k ≡ suc (suc (2 * k)) = omega arith in ap (λ n. words (drop n (x ∷ y ∷ bs))) e ∙ words-drop k bs

pub words_take : (k : ℕ) (bs : List ℕ) → words (take (2 * k) bs) ≡ take k (words bs)
words_take zero bs = refl
words_take (suc k) [] = let e : 2 * suc k ≡ suc (2 * k + 1) = omega arith in ap (λ n. words (take n [])) e
words_take (suc k) (x ∷ []) = let e : 2 * suc k ≡ suc (suc (2 * k)) = omega arith in ap (λ n. words (take n (x ∷ []))) e
words_take (suc k) (x ∷ y ∷ bs) = let e : 2 * suc k ≡ suc (suc (2 * k)) = omega arith in ap (λ n. words (take n (x ∷ y ∷ bs))) e ∙ ap (λ l. (x * 256 + y) ∷ l) (words_take k bs)

-- the bytes from 2 * from on, as the checker reads `&bytes[2 * from..2 * end]`
pub words_piece : (bs : List ℕ) (from end n : ℕ) → end ≡ from + n → words (take (2 * end - 2 * from) (drop (2 * from) bs)) ≡ take n (drop from (words bs))
words_piece bs from end n e =
    let size : 2 * end - 2 * from ≡ 2 * n = omega arith in
    ap (λ k. words (take k (drop (2 * from) bs))) size ∙ words_take n (drop (2 * from) bs) ∙ ap (take n) (words-drop from bs)

pub length-numbers : (part : Part) (n : ℕ) → length (content part) ≡ 2 * n → length (numbers_in part) ≡ n
length-numbers (Bytes part) n e = length-words n part.now e
length-numbers (Words part) n e = omega (arith, length_bytes part.now)
