-- A message that is fed in parts, and numbers that are fed in pieces of a buffer.
use Rattle.std.proofs.Common.{◌≡◌, ℕ, ◌+◌, ◌-◌, ◌*◌, ◌≤◌, true, false, cond, ltb, List, [], ◌∷◌, ◌++◌, length, take, drop, Some, None, Option, MatchOption, Bor, Iter, refl, sym, ap, ◌∙◌, arith}
use Rattle.std.proofs.lemmas.List.{length-append, nil_from_length}
use Rattle.std.proofs.lemmas.Bool.Decides.{nat_tests}
use Rattle.std.specs.Slice.Iter.{iter_rest, iter_steps}
use Rattle.std.specs.Iterator.{Yields}
use Rattle.std.specs.List.{FoldsTo}
use Rattle.vectors.specs.declared.part.Part.{Part}
use Rattle.commitment.specs.Meaning.{SchemeState, feed_fault}
use Rattle.vectors.specs.Parts.{content}
use Rattle.commitment.specs.Messages.{message}
use Rattle.vectors.specs.Words.{bytes}
use Rattle.vectors.specs.Over.{over}
use Rattle.vectors.proofs.Words.{length_bytes}
use Rattle.vectors.proofs.Over.{part-over}

abbrev pub left : ℕ → ℕ → Option ℕ
left room size = cond (ltb room size) None (Some (room - size))

-- the room after parts that fitted, and whether it suffices for those to come
module _ {F : Type 0} (Turn : F × ℕ → Bor Part → F × ℕ → Type 0)
    (leaves : (p q : F × ℕ) (x : Bor Part) → Turn p x q → Some q.1 ≡ left p.1 (length (content x.now))) where
  pub passes_on : (xs : List (Bor Part)) (s t : Iter Part) (p q : F × ℕ) → Yields iter_steps s xs t → FoldsTo Turn p xs q →
      ltb q.1 (length (message (iter_rest t))) ≡ ltb p.1 (length (message (iter_rest s)))
  passes_on [] s t p q y f = rw (y, f) refl
  passes_on (x ∷ xs) s t p q (u, step, y) (j, turn, f) =
      passes_on xs u t j q y f
      ∙ behind p.1 (length (content x.now)) (length (message (iter_rest u))) j.1 (leaves p j x turn)
      ∙ ap (ltb p.1) (sym (length-append (content x.now) (message (iter_rest u))))
      ∙ ap (λ parts. ltb p.1 (length (message parts))) (sym step)
    where
      behind : (room first rest room' : ℕ) → Some room' ≡ left room first → ltb room' rest ≡ ltb room (first + rest)
      behind room first rest room' e = grind (arith, nat_tests)

-- no part is left
pub passes_none : (room : ℕ) (rest : List Part) → length rest ≡ 0 → false ≡ ltb room (length (message rest))
passes_none room rest e = none room ∙ ap (λ parts. ltb room (length (message parts))) (sym (nil_from_length rest e))
  where
    none : (room : ℕ) → false ≡ ltb room 0
    none room = grind (arith, nat_tests)

-- the next part does not fit
pub passes_here : (room : ℕ) (part : Part) (rest parts : List Part) → parts ≡ part ∷ rest → None ≡ left room (length (content part)) → true ≡ ltb room (length (message parts))
passes_here room part rest parts e f =
    here room (length (content part)) (length (message rest)) f
    ∙ ap (ltb room) (sym (length-append (content part) (message rest))) ∙ ap (λ l. ltb room (length (message l))) (sym e)
  where
    here : (room first rest : ℕ) → None ≡ left room first → true ≡ ltb room (first + rest)
    here room first rest e = grind (arith, nat_tests)

-- the two ways in which a search over items ends
pub at_end : {A P Q G : Type 0} {R S : A → Type 0} (o : Option A) → MatchOption o P R → MatchOption o Q S → (P → Q → G) → ((x : A) → R x → S x → G) → G
at_end None p q f g = f p q
at_end (Some x) r s f g = g x r s

-- a piece of the numbers, written at the start of a buffer
pub piece_written : (buffer piece : List ℕ) → 2 * length piece ≤ length buffer → take (2 * length piece) (over buffer 0 (bytes piece)) ≡ bytes piece
piece_written buffer piece small =
    let wide : 2 * length piece ≡ length (bytes piece) = omega (arith, length_bytes piece) in
    let room : 0 + length (bytes piece) ≤ length buffer = omega arith in
    ap (λ n. take n (over buffer 0 (bytes piece))) wide ∙ part-over buffer 0 (bytes piece) room

module _ (state : SchemeState) where
  pub fed-within : (size n : ℕ) → size ≤ state.room → feed_fault state size ≡ Some n → ⊥
  fed-within size n h e =
      let none : feed_fault state size ≡ None = grind (arith, nat_tests) in
      let z : ◌≡◌ {A = ℕ} 0 1 = cc in
      omega arith

-- what is fed and what is still to be fed make up the message
pub record Underway (before : SchemeState) (parts : List Part) (i : ℕ) (now : SchemeState) : Type 0 where
  pub values : (rest : List ℕ) → now.values (message (drop i parts) ++ rest) ≡ before.values (message parts ++ rest)
  pub room : now.room + length (message parts) ≡ before.room + length (message (drop i parts))
