-- No load's number is answered twice.
use Rattle.std.proofs.Common.{◌≡◌, ℕ, ◌+◌, ◌<◌, ◌≤◌, ◌≢◌, ◌⊎◌, List, [], ◌∷◌, length, get_or, set, replicate, sym, refl, ap, ◌∙◌, subst, inl, inr, ⊎_elim, arith}
use Rattle.std.specs.List.{AllByRecursion}
use Rattle.std.proofs.lemmas.List.{length-replicate, get_or-set_same, get_or-set_other, get_or-replicate, get_or_past}
use Rattle.std.proofs.lemmas.Bool.{cases_eq, cases_lt}
use Rattle.relation.specs.Meaning.{RelationMeaning}
use Rattle.commitment.specs.Meaning.{SchemeMeaning}
use Rattle.masks.specs.Mask.{Mask}
use Rattle.console_steps.specs.declared.lines.Line.{Line}
use Rattle.console_steps.specs.declared.lines.Line.TheVariants.{Free, Loaded, Committed}
use Rattle.console_steps.specs.State.{ConsoleState, slip_line, line_at, cleared, new_console}
use Rattle.console_steps.specs.Runs.{Call, Event, loads, after, event, events, answered}
use Rattle.console_steps.specs.Laws.{Once}
use Rattle.console_steps.proofs.Ways.{Way, stays, brings, commits_to, replies, clears, four_after, way}

abbrev pub Carries : Line → ℕ → Type 0
Carries Free n = ⊥
Carries (Loaded m) n = m ≡ n
Carries (Committed m) n = m ≡ n

-- what a line carries after one line was set
carried_set : (ls : List Line) (i : ℕ) (l : Line) (j n : ℕ) → i < length ls → Carries (get_or (set ls i l) j Free) n
    → ((j ≡ i) × Carries l n) ⊎ ((j ≢ i) × Carries (get_or ls j Free) n)
carried_set ls i l j n inside h =
    ⊎_elim (λ (e : j ≡ i). inl (e, rw (e, get_or-set_same ls i l Free inside) at h))
    (λ (d : j ≢ i). inr (d, rw (get_or-set_other ls i j l Free d) at h)) (cases_eq j i)

pub free_at : (k i : ℕ) → get_or (replicate k Free) i Free ≡ Free
free_at k i =
    ⊎_elim (λ (l : i < k). get_or-replicate k i Free Free l)
    (λ (l : k ≤ i). get_or_past (replicate k Free) i Free (omega (arith, length-replicate k Free))) (cases_lt i k)

-- no number is on two lines, and none is above the count of loads
pub record Valid (s : ConsoleState) : Type 0 where
  pub four : length s.lines ≡ 4
  pub counted : (j n : ℕ) → Carries (line_at s j) n → n ≤ s.loads
  pub apart : (i j n : ℕ) → Carries (line_at s i) n → Carries (line_at s j) n → i ≡ j

pub valid_new : (numbers coins : List ℕ) → Valid (new_console numbers coins)
valid_new numbers coins = record { four = length-replicate 4 Free; counted = λ j n h. absurd (none j n h); apart = λ i j n h _. absurd (none i n h) }
  where
    none : (j n : ℕ) → Carries (line_at (new_console numbers coins) j) n → ⊥
    none j n h = subst (λ l. Carries l n) (free_at 4 j) h

-- no line carries the number, and no load brings it any more
record Spent (s : ConsoleState) (n : ℕ) : Type 0 where
  counted : n ≤ s.loads
  gone : (j : ℕ) → Carries (line_at s j) n → ⊥

-- the call brought the number to line j
record Brought (s t : ConsoleState) (e : Event) (j n : ℕ) : Type 0 where
  is_next : n ≡ s.loads + 1
  now_last : t.loads ≡ n
  mask : Mask
  told : e ≡ loads j n mask

module _ {E : Type 0} (relation : RelationMeaning E) (scheme : SchemeMeaning) where
  carried : (s t : ConsoleState) (e : Event) → Way relation scheme s t e → Valid s → (j n : ℕ) → Carries (line_at t j) n → Carries (line_at s j) n ⊎ Brought s t e j n
  carried s t e (stays m k) v j n h = inl h
  carried s t e (brings line mask k) v j n h =
      ⊎_elim (λ (p : (j ≡ line) × (s.loads + 1 ≡ n)). inr (record { is_next = sym p.1; now_last = p.1; mask = mask; told = cc }))
      (λ (p : (j ≢ line) × Carries (line_at s j) n). inl p.1)
      (carried_set s.lines line (Loaded (s.loads + 1)) j n (omega (arith, k.inside, v.four)) h)
  carried s t e (commits_to line count k) v j n h =
      ⊎_elim (λ (p : (j ≡ line) × (count ≡ n)). inl (subst (λ l. Carries l n) (sym (ap (line_at s) p.0 ∙ k.carried)) p.1))
      (λ (p : (j ≢ line) × Carries (line_at s j) n). inl p.1)
      (carried_set s.lines line (Committed count) j n (omega (arith, k.inside, v.four)) h)
  carried s t e (replies line count challenge k) v j n h =
      ⊎_elim (λ (p : (j ≡ line) × ⊥). absurd p.1) (λ (p : (j ≢ line) × Carries (line_at s j) n). inl p.1)
      (carried_set s.lines line Free j n (omega (arith, k.inside, v.four)) h)
  carried s t e (clears slip k) v j n h =
      ⊎_elim (λ (p : (j ≡ slip_line slip) × ⊥). absurd p.1) (λ (p : (j ≢ slip_line slip) × Carries (line_at s j) n). inl p.1)
      (carried_set s.lines (slip_line slip) Free j n (omega (arith, k.inside, v.four)) h)

  loads_grow : (s t : ConsoleState) (e : Event) → Way relation scheme s t e → s.loads ≤ t.loads
  loads_grow s t e (stays m k) = omega arith
  loads_grow s t e (brings line mask k) = omega arith
  loads_grow s t e (commits_to line count k) = omega arith
  loads_grow s t e (replies line count challenge k) = omega arith
  loads_grow s t e (clears slip k) = omega arith

  module _ (s t : ConsoleState) (e : Event) (w : Way relation scheme s t e) (v : Valid s) where
    valid_after : Valid t
    valid_after = record { four = four_after relation scheme s t e w v.four; counted = counted; apart = apart }
      where
        counted : (j n : ℕ) → Carries (line_at t j) n → n ≤ t.loads
        counted j n h =
            ⊎_elim (λ (c : Carries (line_at s j) n). omega (arith, v.counted j n c, loads_grow s t e w))
            (λ (b : Brought s t e j n). omega (arith, b.now_last)) (carried s t e w v j n h)

        older : (i j n : ℕ) → Carries (line_at s i) n → Brought s t e j n → ⊥
        older i j n c b = omega (arith, v.counted i n c, b.is_next)

        apart : (i j n : ℕ) → Carries (line_at t i) n → Carries (line_at t j) n → i ≡ j
        apart i j n h k =
            ⊎_elim
            (λ (c : Carries (line_at s i) n). ⊎_elim (λ (d : Carries (line_at s j) n). v.apart i j n c d) (λ (b : Brought s t e j n). absurd (older i j n c b)) (carried s t e w v j n k))
            (λ (a : Brought s t e i n). ⊎_elim (λ (d : Carries (line_at s j) n). absurd (older j i n d a)) (λ (b : Brought s t e j n). let p = a.told in let q = b.told in cc) (carried s t e w v j n k))
            (carried s t e w v i n h)

    spent_after : (n : ℕ) → Spent s n → Spent t n
    spent_after n d =
        record {
          counted = omega (arith, d.counted, loads_grow s t e w);
          gone = λ j h. ⊎_elim (d.gone j) (λ (b : Brought s t e j n). omega (arith, d.counted, b.is_next)) (carried s t e w v j n h);
        }

  spent_cleared : (s : ConsoleState) (line count : ℕ) → Valid s → line < 4 → Carries (line_at s line) count → Spent (cleared relation scheme s line) count
  spent_cleared s line count v inside c =
      record {
        counted = v.counted line count c;
        gone = λ j h. ⊎_elim (λ (p : (j ≡ line) × ⊥). p.1) (λ (p : (j ≢ line) × Carries (line_at s j) count). p.0 (v.apart j line count p.1 c))
            (carried_set s.lines line Free j count (omega (arith, v.four)) h);
      }

  absent_more : (s t : ConsoleState) (e : Event) (rest : List Event) (n : ℕ) → Way relation scheme s t e → Spent s n → AllByRecursion (λ m. m ≢ n) (answered rest) → AllByRecursion (λ m. m ≢ n) (answered (e ∷ rest))
  absent_more s t e rest n (stays m k) d h = h
  absent_more s t e rest n (brings line mask k) d h = h
  absent_more s t e rest n (commits_to line count k) d h = h
  absent_more s t e rest n (replies line count challenge k) d h = ((λ (q : count ≡ n). d.gone line (subst (λ l. Carries l n) (sym k.carried) q)), h)
  absent_more s t e rest n (clears slip k) d h = h

  once_more : (s t : ConsoleState) (e : Event) (rest : List Event) → Way relation scheme s t e → Valid s → ((n : ℕ) → Spent t n → AllByRecursion (λ m. m ≢ n) (answered rest))
      → Once (answered rest) → Once (answered (e ∷ rest))
  once_more s t e rest (stays m k) v absent h = h
  once_more s t e rest (brings line mask k) v absent h = h
  once_more s t e rest (commits_to line count k) v absent h = h
  once_more s t e rest (replies line count challenge k) v absent h =
      (absent count (spent_cleared s line count v k.inside (subst (λ l. Carries l count) (sym k.carried) refl)), h)
  once_more s t e rest (clears slip k) v absent h = h

  absent : (s : ConsoleState) (calls : List (Call E)) (n : ℕ) → Valid s → Spent s n → AllByRecursion (λ m. m ≢ n) (answered (events relation scheme s calls))
  absent s [] n v d = tt
  absent s (call ∷ calls) n v d =
      let t = after relation scheme s call in
      let e = event relation scheme s call in
      let w = way relation scheme s call in
      absent_more s t e (events relation scheme t calls) n w d (absent t calls n (valid_after s t e w v) (spent_after s t e w v n d))

  pub once : (s : ConsoleState) (calls : List (Call E)) → Valid s → Once (answered (events relation scheme s calls))
  once s [] v = tt
  once s (call ∷ calls) v =
      let t = after relation scheme s call in
      let e = event relation scheme s call in
      let w = way relation scheme s call in
      let v₁ = valid_after s t e w v in
      once_more s t e (events relation scheme t calls) w v (λ n d. absent t calls n v₁ d) (once t calls v₁)
