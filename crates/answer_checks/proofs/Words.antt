-- The numbers of a layer, read from its bytes.
use Rattle.std.proofs.Common.{◌≡◌, ℕ, zero, suc, ◌+◌, ◌-◌, ◌*◌, ◌<◌, List, [], ◌∷◌, length, take, drop, refl, ap, ◌∙◌, ap₂, arith}
use Rattle.vectors.specs.Layers.{layer}
use Rattle.vectors.specs.Permutations.{permutes}
use Rattle.vectors.specs.Words.{words}
use Rattle.vectors.proofs.Layers.{length-layer}
use Rattle.vectors.proofs.Words.{length-words}

double_suc : (n : ℕ) → 2 * suc n ≡ suc (suc (2 * n))
double_suc n = omega arith

words_take : (n : ℕ) (bs : List ℕ) → words (take (2 * n) bs) ≡ take n (words bs)
words_take zero bs = refl
words_take (suc n) [] = ap (λ k. words (take k [])) (double_suc n)
words_take (suc n) (x ∷ []) = ap (λ k. words (take k (x ∷ []))) (double_suc n)
words_take (suc n) (x ∷ y ∷ bs) = ap (λ k. words (take k (x ∷ y ∷ bs))) (double_suc n) ∙ ap (λ ws. (x * 256 + y) ∷ ws) (words_take n bs)

words-drop : (n : ℕ) (bs : List ℕ) → words (drop (2 * n) bs) ≡ drop n (words bs)
words-drop zero bs = refl
words-drop (suc n) [] = ap (λ k. words (drop k [])) (double_suc n)
words-drop (suc n) (x ∷ []) = ap (λ k. words (drop k (x ∷ []))) (double_suc n)
words-drop (suc n) (x ∷ y ∷ bs) = ap (λ k. words (drop k (x ∷ y ∷ bs))) (double_suc n) ∙ words-drop n bs

-- the test of layer j, whose numbers were read from `&bs[2 * start..2 * end]` at its places
pub permutes_words : (N K j start end : ℕ) (bs positions : List ℕ) → start ≡ j * N → end ≡ j * N + N → length bs ≡ 2 * (K * N) → j < K
    → positions ≡ words (take (2 * end - 2 * start) (drop (2 * start) bs)) → permutes (length positions) positions ≡ permutes N (layer N j (words bs))
permutes_words N K j start end bs positions s e h l p =
    let n : 2 * end - 2 * start ≡ 2 * N = omega arith in
    let r : positions ≡ layer N j (words bs) =
    p ∙ ap₂ (λ m k. words (take m (drop (2 * k) bs))) n s ∙ words_take N (drop (2 * (j * N)) bs) ∙ ap (take N) (words-drop (j * N) bs) in
    ap₂ permutes (ap length r ∙ length-layer N K (words bs) j (length-words (K * N) bs h) l) r
