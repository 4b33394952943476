-- What holds where a call is not refused, and which numbers refuse it.
use Rattle.std.proofs.Common.{◌≡◌, ℕ, ◌*◌, ◌<◌, ◌≤◌, Bool, true, false, cond, not, ◌&&◌, eqb, ltb, leb, ◌≢◌, List, length, Some, None, Option, sym, refl, subst, arith}
use Rattle.std.proofs.lemmas.Bool.{or_parts, ltb-false, eqb-true, not-false, false≢true}
use Rattle.relation.specs.Meaning.{RelationMeaning}
use Rattle.relation.specs.Laws.{KeyNumbers}
use Rattle.commitment.specs.Meaning.{SchemeMeaning}
use Rattle.masks.specs.Mask.{Mask, WellFormed, sized, sound, mask_fault}
use Rattle.masks.proofs.Checked.{well_formed_from_tests}
use Rattle.messages.specs.Checks.{or_else}
use Rattle.moves.specs.Sizes.{limit_fault, work_fault}
use Rattle.moves.proofs.Findings.{cond_none_first, or_else_none}
use Rattle.console_moves.specs.Faults as moves
use Rattle.console_steps.specs.declared.lines.Line.{Line}
use Rattle.console_steps.specs.declared.lines.Line.TheVariants.{Free, Loaded, Committed}
use Rattle.console_steps.specs.State.{ConsoleState, Slip, slip_line, slip_state, same_line, line_at, mask_on, mask_size, coins_size, memory_fault}
use Rattle.console_steps.specs.Steps.{line_fault, free_fault, loads_fault, load_fault, slip_fault, commit_fault, answer_fault}

pub impossible : {P : Type 0} → ◌≡◌ {A = ℕ} 0 1 → P
impossible e = absurd (omega arith)

same_line_is : (a b : Line) → same_line a b ≡ true → a ≡ b
same_line_is Free Free h = refl
same_line_is Free (Loaded n) h = absurd (false≢true h)
same_line_is Free (Committed n) h = absurd (false≢true h)
same_line_is (Loaded m) Free h = absurd (false≢true h)
same_line_is (Loaded m) (Loaded n) h = let e = eqb-true m n h in cc
same_line_is (Loaded m) (Committed n) h = absurd (false≢true h)
same_line_is (Committed m) Free h = absurd (false≢true h)
same_line_is (Committed m) (Loaded n) h = absurd (false≢true h)
same_line_is (Committed m) (Committed n) h = let e = eqb-true m n h in cc

cond_none : (b : Bool) (n : ℕ) → cond b (Some n) None ≡ None → b ≡ false
cond_none true n e = impossible (cc)
cond_none false n e = refl

-- a fault that is not told by 56
abbrev pub Not56 : Option ℕ → Type 0
Not56 None = Unit {0}
Not56 (Some n) = n ≢ 56

not_56_or_else : (x y : Option ℕ) → Not56 x → Not56 y → Not56 (or_else x y)
not_56_or_else None y h k = k
not_56_or_else (Some n) y h k = h

not_56_some : (b : Bool) (n : ℕ) → n ≢ 56 → Not56 (cond b (Some n) None)
not_56_some true n h = h
not_56_some false n h = tt

not_56_cond : (b : Bool) (x : Option ℕ) (n : ℕ) → Not56 x → n ≢ 56 → Not56 (cond b x (Some n))
not_56_cond true x n k h = k
not_56_cond false x n k h = h

not_56_from_range : (o : Option ℕ) → ((n : ℕ) → o ≡ Some n → (21 ≤ n) × (n ≤ 24)) → Not56 o
not_56_from_range None h = tt
not_56_from_range (Some n) h = λ e. omega (arith, h n refl)

module _ {E : Type 0} (relation : RelationMeaning E) (scheme : SchemeMeaning) (s : ConsoleState) where
  -- the memory holds four masks
  pub record Room : Type 0 where
    pub numbers : 4 * mask_size relation scheme ≤ length s.numbers
    pub coins : 4 * coins_size relation scheme ≤ length s.coins

  room_from_memory : memory_fault relation scheme s ≡ None → Room
  room_from_memory h =
      let p = or_parts (ltb (length s.numbers) (4 * mask_size relation scheme)) (ltb (length s.coins) (4 * coins_size relation scheme)) (cond_none _ 35 h) in
      record { numbers = ltb-false _ _ p.0; coins = ltb-false _ _ p.1 }

  pub record Loads (line : ℕ) (mask : Mask) : Type 0 where
    pub inside : line < 4
    pub room : Room
    pub mask_formed : WellFormed relation scheme.width mask

  pub loads_from_fault : (line : ℕ) (mask : Mask) → load_fault relation scheme s line mask ≡ None → Loads line mask
  loads_from_fault line mask h =
      let a = or_else_none (memory_fault relation scheme s) _ h in
      let b = or_else_none (line_fault line) _ a.1 in
      let c = or_else_none (free_fault s line) _ b.1 in
      let d = or_else_none (mask_fault relation scheme.width mask) (loads_fault s) c.1 in
      let e = cond_none_first (sized relation scheme.width mask) _ 32 d.0 in
      let f = cond_none_first (sound relation scheme.width mask) None 33 e.1 in
      let inside : line < 4 = omega (arith, ltb-false 3 line (cond_none (ltb 3 line) 30 b.0)) in
      record { inside = inside; room = room_from_memory a.0; mask_formed = well_formed_from_tests relation scheme.width mask e.0 f.0 }

  -- the line carries the slip
  pub record Fits (slip : Slip) : Type 0 where
    pub inside : slip_line slip < 4
    pub room : Room
    pub carried : line_at s (slip_line slip) ≡ slip_state slip

  pub fits_from_fault : (slip : Slip) → slip_fault relation scheme s slip ≡ None → Fits slip
  fits_from_fault slip h =
      let a = or_else_none (memory_fault relation scheme s) _ h in
      let b = or_parts (ltb 3 (slip_line slip)) (not (same_line (line_at s (slip_line slip)) (slip_state slip))) (cond_none _ 36 a.1) in
      let inside : slip_line slip < 4 = omega (arith, ltb-false 3 (slip_line slip) b.0) in
      record { inside = inside; room = room_from_memory a.0; carried = same_line_is _ _ (not-false _ b.1) }

  not_56_memory : Not56 (memory_fault relation scheme s)
  not_56_memory = not_56_some _ 35 (λ e. omega arith)

  not_56_mask : (mask : Mask) → Not56 (mask_fault relation scheme.width mask)
  not_56_mask mask =
      not_56_cond (sized relation scheme.width mask) _ 32 (not_56_cond (sound relation scheme.width mask) None 33 tt (λ e. omega arith)) (λ e. omega arith)

  pub not_56_load : (line : ℕ) (mask : Mask) → Not56 (load_fault relation scheme s line mask)
  not_56_load line mask =
      not_56_or_else (memory_fault relation scheme s) _ not_56_memory
      (not_56_or_else (line_fault line) _ (not_56_some (ltb 3 line) 30 (λ e. omega arith))
      (not_56_or_else (free_fault s line) _ (not_56_cond (same_line (line_at s line) Free) None 31 tt (λ e. omega arith))
      (not_56_or_else (mask_fault relation scheme.width mask) (loads_fault s) (not_56_mask mask)
      (not_56_some (eqb s.loads 65535) 34 (λ e. omega arith)))))

  pub not_56_slip : (slip : Slip) → Not56 (slip_fault relation scheme s slip)
  not_56_slip slip = not_56_or_else (memory_fault relation scheme s) _ not_56_memory (not_56_some _ 36 (λ e. omega arith))

  not_56_work : (work : ℕ) → Not56 (work_fault relation work)
  not_56_work work = not_56_some _ 37 (λ e. omega arith)

  not_56_output : (out size : ℕ) → Not56 (moves.output_fault out size)
  not_56_output out size = not_56_some (ltb out size) 37 (λ e. omega arith)

  module _ (numbers : KeyNumbers relation) where
    not_56_key : (key : List E) → Not56 (relation.key_fault key)
    not_56_key key = not_56_from_range (relation.key_fault key) (numbers key)

    pub not_56_commit : (slip : Slip) (key : List E) (work : ℕ) (out : List ℕ) → limit_fault relation scheme ≡ None → Not56 (commit_fault relation scheme s slip key work out)
    not_56_commit slip key work out none =
        let mask = mask_on relation scheme s (slip_line slip) in
        not_56_or_else (slip_fault relation scheme s slip) _ (not_56_slip slip)
        (not_56_or_else (limit_fault relation scheme) _ (subst Not56 (sym none) tt)
        (not_56_or_else (mask_fault relation scheme.width mask) _ (not_56_mask mask)
        (not_56_or_else (work_fault relation work) _ (not_56_work work)
        (not_56_or_else (moves.output_fault (length out) (moves.commitments_size relation scheme)) _ (not_56_output (length out) (moves.commitments_size relation scheme))
        (not_56_key key)))))

    pub not_56_answer : (slip : Slip) (key : List E) (challenge work : ℕ) (out : List ℕ) → Not56 (answer_fault relation scheme s slip key challenge work out)
    not_56_answer slip key challenge work out =
        let mask = mask_on relation scheme s (slip_line slip) in
        not_56_or_else (slip_fault relation scheme s slip) _ (not_56_slip slip)
        (not_56_or_else (mask_fault relation scheme.width mask) _ (not_56_mask mask)
        (not_56_or_else (moves.challenge_fault challenge) _ (not_56_cond (leb 1 challenge && leb challenge 3) None 38 tt (λ e. omega arith))
        (not_56_or_else (work_fault relation work) _ (not_56_work work)
        (not_56_or_else (moves.output_fault (length out) (moves.answer_size relation scheme challenge)) _ (not_56_output (length out) (moves.answer_size relation scheme challenge))
        (not_56_key key)))))
