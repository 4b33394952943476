-- The hash value after blocks, and after bytes of which some are held.
use Rattle.std.proofs.Common.{◌≡◌, ℕ, zero, suc, ◌+◌, ◌-◌, ◌*◌, ◌/◌, ◌%◌, ◌<◌, ◌≤◌, fold, min, List, [], ◌++◌, length, take, drop, sym, refl, ap, ◌∙◌, arith}
use borrow.Rule.Slice.PartMut.{put_mid}
use Rattle.std.proofs.lemmas.List.{append_assoc, length-append, length-take, length-drop, take_all, take_at, take-append-drop, drop_at, drop-drop, nil_from_length}
use Rattle.std.specs.Simd.{first_chunks}
use Rattle.std.proofs.lemmas.Slice.{take-put_mid}
use Rattle.sha256.specs.Block.{compressed}
use Rattle.sha256.specs.Hash.{after_blocks, chained}
use Rattle.sha256.specs.State.{hash_after, Absorbed}
use Rattle.sha256.specs.declared.state.Blocks.{Blocks}

pub chained_block : (hash block rest : List ℕ) → length block ≡ 64 → chained hash (block ++ rest) ≡ chained (compressed hash block) rest
unfolding chained after_blocks
chained_block hash block rest e =
    let n : length (block ++ rest) / 64 ≡ suc (length rest / 64) = simp length-append (omega arith) in
    ap (λ k. after_blocks k hash (block ++ rest)) n
    ∙ ap (λ b. after_blocks (length rest / 64) (compressed hash b) (drop 64 (block ++ rest))) (take_at block rest 64 e)
    ∙ ap (after_blocks (length rest / 64) (compressed hash block)) (drop_at block rest 64 e)

pub chained-short : (hash bytes : List ℕ) → length bytes < 64 → chained hash bytes ≡ hash
unfolding chained after_blocks
chained-short hash bytes h =
    let n : length bytes / 64 ≡ 0 = omega arith in
    ap (λ k. after_blocks k hash bytes) n

-- the blocks one after another, as a slice is cut into them
pub after_blocks_is : (n : ℕ) (hash bytes : List ℕ) → fold compressed hash (first_chunks 64 n bytes) ≡ after_blocks n hash bytes
unfolding after_blocks
after_blocks_is zero hash bytes = refl
after_blocks_is (suc n) hash bytes = after_blocks_is n (compressed hash (take 64 bytes)) (drop 64 bytes)

pub chained_blocks : (hash bytes : List ℕ) → fold compressed hash (first_chunks 64 (length bytes / 64) bytes) ≡ chained hash bytes
unfolding chained
chained_blocks hash bytes = after_blocks_is (length bytes / 64) hash bytes

-- bytes that are written after the first filled ones of those that are held
module _ (held bytes written : List ℕ) (filled : ℕ) (fits : filled + length bytes ≤ length held) (is : written ≡ bytes) where
  pub length_held : length (put_mid filled (filled + length bytes - filled) held written) ≡ length held
  length_held =
      let l : length written ≡ length bytes = ap length is in
      simp (length-append, length-take, length-drop) (omega arith)

  take_held : take (filled + length bytes) (put_mid filled (filled + length bytes - filled) held written) ≡ take filled held ++ bytes
  take_held =
      let l : length written ≡ length bytes = ap length is in
      take-put_mid filled (filled + length bytes - filled) held written (filled + length bytes) (omega arith) (omega arith)
      ∙ ap (λ x. take filled held ++ x) is

  pub held_part : (hash m : List ℕ) →
      chained hash (take (filled + length bytes) (put_mid filled (filled + length bytes - filled) held written) ++ m)
      ≡ chained hash (take filled held ++ (bytes ++ m))
  held_part hash m = ap (λ l. chained hash (l ++ m)) take_held ∙ ap (chained hash) (append_assoc (take filled held) bytes m)

  pub held_whole : (hash next m : List ℕ) → length held ≡ 64 → filled + length bytes ≡ 64 →
      next ≡ compressed hash (put_mid filled (filled + length bytes - filled) held written) →
      chained next m ≡ chained hash (take filled held ++ (bytes ++ m))
  held_whole hash next m size whole p =
      let block : List ℕ = put_mid filled (filled + length bytes - filled) held written in
      let l : length block ≡ 64 = length_held ∙ size in
      ap (λ x. chained x m) p
      ∙ sym (chained_block hash block m l)
      ∙ ap (λ x. chained hash (x ++ m)) (sym (take_all (filled + length bytes) block (omega arith)))
      ∙ held_part hash m

-- some whole blocks, and the rest of the bytes after them
after_blocks_on : (n : ℕ) (hash bytes m : List ℕ) → n * 64 ≤ length bytes →
    chained (after_blocks n hash bytes) (drop (n * 64) bytes ++ m) ≡ chained hash (bytes ++ m)
unfolding after_blocks
after_blocks_on zero hash bytes m h = refl
after_blocks_on (suc n) hash bytes m h =
    let block : List ℕ = take 64 bytes in
    let l : length block ≡ 64 = simp length-take (omega arith) in
    let k : suc n * 64 ≡ 64 + n * 64 = omega arith in
    let le : n * 64 ≤ length (drop 64 bytes) = simp length-drop (omega arith) in
    ap (λ x. chained (after_blocks n (compressed hash block) (drop 64 bytes)) (x ++ m)) (ap (λ i. drop i bytes) k ∙ sym (drop-drop (n * 64) 64 bytes))
    ∙ after_blocks_on n (compressed hash block) (drop 64 bytes) m le
    ∙ sym (chained_block hash block (drop 64 bytes ++ m) l)
    ∙ ap (chained hash) (sym (append_assoc block (drop 64 bytes) m) ∙ ap (λ x. x ++ m) (take-append-drop 64 bytes))

chained_is : (hash bytes : List ℕ) → chained hash bytes ≡ after_blocks (length bytes / 64) hash bytes
unfolding chained
chained_is hash bytes = refl

chained_on : (hash bytes m : List ℕ) → chained (chained hash bytes) (drop (length bytes / 64 * 64) bytes ++ m) ≡ chained hash (bytes ++ m)
chained_on hash bytes m =
    ap (λ x. chained x (drop (length bytes / 64 * 64) bytes ++ m)) (chained_is hash bytes)
    ∙ after_blocks_on (length bytes / 64) hash bytes m (omega arith)

-- whole blocks where nothing is held, or no bytes
blocks_on : (hash held bytes m : List ℕ) (filled : ℕ) → (0 < filled → length bytes ≡ 0) →
    chained (chained hash bytes) (take filled held ++ (drop (length bytes / 64 * 64) bytes ++ m)) ≡ chained hash (take filled held ++ (bytes ++ m))
blocks_on hash held bytes m zero e = chained_on hash bytes m
blocks_on hash held bytes m (suc n) e =
    let none : bytes ≡ [] = nil_from_length bytes (e (omega arith)) in
    ap (λ x. chained (chained hash x) (take (suc n) held ++ (drop (length x / 64 * 64) x ++ m))) none
    ∙ ap (λ x. chained x (take (suc n) held ++ m)) (chained-short hash [] (omega arith))
    ∙ ap (λ x. chained hash (take (suc n) held ++ (x ++ m))) (sym none)

-- bytes that fill the block that is held, then whole blocks, then the rest
module _ (s t u : Blocks) (bytes front back tail hash : List ℕ) (n : ℕ) (full : n ≡ min (length bytes) ((64 - s.filled) % 64))
    (front_is : front ≡ take n bytes) (back_is : back ≡ drop n bytes) (tail_is : tail ≡ drop (length back / 64 * 64) back) where
  front-length : length front ≡ n
  front-length = ap length front_is ∙ simp length-take (omega arith)

  back-length : length back ≡ length bytes - n
  back-length = ap length back_is ∙ simp length-drop (omega arith)

  whole : front ++ back ≡ bytes
  whole = ap (λ x. x ++ back) front_is ∙ ap (λ x. take n bytes ++ x) back_is ∙ take-append-drop n bytes

  module _ (step_t : Absorbed s front t) (is_hash : hash ≡ chained t.hash back) (hash_u : (m : List ℕ) → hash_after u m ≡ chained hash (take t.filled t.held ++ (tail ++ m)))
      (filled_u : u.filled ≡ (t.filled + length tail) % 64) where
    pub absorbed : Absorbed s bytes u
    absorbed =
        let z : 0 < t.filled → length back ≡ 0 = λ h. omega (arith, front-length, back-length, step_t.filled, s.sizes.2) in
        let l : length tail ≡ length back % 64 = ap length tail_is ∙ simp length-drop (omega arith) in
        record {
          hash = λ m.
              hash_u m
              ∙ ap (λ x. chained x (take t.filled t.held ++ (tail ++ m))) is_hash
              ∙ ap (λ x. chained (chained t.hash back) (take t.filled t.held ++ (x ++ m))) tail_is
              ∙ blocks_on t.hash t.held back m t.filled z
              ∙ step_t.hash (back ++ m)
              ∙ ap (hash_after s) (sym (append_assoc front back m) ∙ ap (λ x. x ++ m) whole);
          filled = omega (arith, front-length, back-length, step_t.filled, s.sizes.2);
        }
