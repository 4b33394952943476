-- The digest of what a hasher has taken, and its length.
use Rattle.std.proofs.Common.{◌≡◌, ℕ, zero, suc, ◌+◌, ◌*◌, ◌/◌, ◌%◌, List, [], ◌∷◌, ◌++◌, length, take, drop, sym, refl, ap, ◌∙◌, add-zero, zero-add, arith}
use Rattle.std.proofs.lemmas.List.{append_assoc, append-nil, length-append}
use Rattle.sha256.specs.Block.{compressed}
use Rattle.sha256.specs.Hash.{initial, after_blocks, chained, bytes_of, padding, sha256}
use Rattle.sha256.specs.State.{hash_after, Absorbed, digest_after}
use Rattle.sha256.specs.declared.state.Blocks.{Blocks}
use Rattle.sha256.specs.declared.state.Sha256.{Sha256}
use Rattle.sha256.proofs.Chains.{chained-short}
use Rattle.sha256.proofs.Paddings.{length-padding}

pub new_is : (s : Blocks) → s.hash ≡ initial → s.filled ≡ 0 → (m : List ℕ) →
    bytes_of (hash_after s (m ++ padding (0 + length m))) ≡ sha256 m
unfolding sha256
new_is s p q m =
    ap (λ n. bytes_of (hash_after s (m ++ padding n))) (zero-add (length m))
    ∙ ap (λ h. bytes_of (chained h (take s.filled s.held ++ (m ++ padding (length m))))) p
    ∙ ap (λ k. bytes_of (chained initial (take k s.held ++ (m ++ padding (length m))))) q

pub update_is : (s t : Blocks) (bytes m : List ℕ) (count : ℕ) → Absorbed s bytes t →
    bytes_of (hash_after t (m ++ padding (count + length bytes + length m)))
    ≡ bytes_of (hash_after s ((bytes ++ m) ++ padding (count + length (bytes ++ m))))
update_is s t bytes m count step =
    let n : count + length bytes + length m ≡ count + length (bytes ++ m) = simp length-append (omega arith) in
    ap bytes_of
    (step.hash (m ++ padding (count + length bytes + length m))
    ∙ ap (hash_after s) (sym (append_assoc bytes m (padding (count + length bytes + length m))) ∙ ap (λ k. (bytes ++ m) ++ padding k) n))

pub finish_is : (s t : Blocks) (count : ℕ) → s.filled ≡ count % 64 → Absorbed s (padding count) t →
    bytes_of t.hash ≡ bytes_of (hash_after s (padding (count + 0)))
finish_is s t count rest step =
    let n = length-padding count in
    let e : t.filled ≡ 0 = omega (arith, step.filled) in
    ap bytes_of
    (sym (chained-short t.hash [] (omega arith))
    ∙ ap (λ k. chained t.hash (take k t.held ++ [])) (sym e)
    ∙ step.hash []
    ∙ ap (hash_after s) (append-nil (padding count) ∙ ap padding (sym (add-zero count))))

length_bytes_of : (xs : List ℕ) → length (bytes_of xs) ≡ 4 * length xs
length_bytes_of [] = refl
length_bytes_of (x ∷ xs) = let e = length_bytes_of xs in omega arith

length-compressed : (hash block : List ℕ) → length (compressed hash block) ≡ 8
unfolding compressed
length-compressed hash block = refl

length-after_blocks : (n : ℕ) (hash bytes : List ℕ) → length hash ≡ 8 → length (after_blocks n hash bytes) ≡ 8
unfolding after_blocks
length-after_blocks zero hash bytes e = e
length-after_blocks (suc n) hash bytes e =
    length-after_blocks n (compressed hash (take 64 bytes)) (drop 64 bytes) (length-compressed hash (take 64 bytes))

length-chained : (hash bytes : List ℕ) → length hash ≡ 8 → length (bytes_of (chained hash bytes)) ≡ 32
unfolding chained
length-chained hash bytes e =
    let l = length-after_blocks (length bytes / 64) hash bytes e in
    length_bytes_of (chained hash bytes) ∙ ap (λ n. 4 * n) l

pub sha256-length : (m : List ℕ) → length (sha256 m) ≡ 32
unfolding sha256
sha256-length m = length-chained initial (m ++ padding (length m)) refl

pub digest_after-length : (s : Sha256) (m : List ℕ) → length (digest_after s m) ≡ 32
unfolding digest_after
digest_after-length s m =
    length-chained s.running.hash (take s.running.filled s.running.held ++ (m ++ padding (s.count + length m))) s.running.sizes.0
