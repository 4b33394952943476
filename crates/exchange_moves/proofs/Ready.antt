-- What follows from reading an answer and from the checks on it that need no commitment.
use Rattle.std.proofs.Common.{◌≡◌, ℕ, ◌+◌, ◌*◌, ◌<◌, List, length, get_or, take, drop, Some, None, Option, sym, refl, ap, ◌∙◌, subst, ap₂, arith}
use Rattle.std.specs.List.{AllByRecursion}
use Rattle.std.proofs.ByRecursion.{All-from_get_or, All-take, All-drop}
use Rattle.refusals.specs.declared.cause.Cause.{Cause}
use Rattle.refusals.specs.declared.cause.Cause.TheVariants.{ResidueNotBelowModulus, NoPermutation}
use Rattle.vectors.specs.declared.layout.Layout.{Layout}
use Rattle.vectors.specs.Words.{bytes, words}
use Rattle.vectors.specs.Residues.{Residues}
use Rattle.vectors.specs.Layers.{Permutations}
use Rattle.vectors.proofs.Failing.{permutations_from_first_failing}
use Rattle.vectors.proofs.Words.{bytes-words, length-words}
use Rattle.relation.specs.Meaning.{RelationMeaning}
use Rattle.commitment.specs.Meaning.{SchemeMeaning}
use Rattle.messages.specs.declared.challenge.Challenge.{Challenge}
use Rattle.messages.specs.declared.challenge.Challenge.TheVariants.{One, Two, Three}
use Rattle.messages.specs.declared.fields.Answer.{Answer}
use Rattle.messages.specs.declared.fields.Answer.TheVariants.{First, Second, Third}
use Rattle.messages.specs.declared.fields.Field.{Field}
use Rattle.messages.specs.declared.fields.Sizes.{Sizes}
use Rattle.messages.specs.Reading.{contents}
use Rattle.messages.specs.Contents.{said_by, answer_slots, answer_fields, asked, Handed}
use Rattle.messages.specs.Checks.{or_else, first_above, field_above, first_unpermuted, answer_above, answer_unpermuted, answer_cause, cause_of}
use Rattle.messages.proofs.Handing.{handed_sized}
use Rattle.moves.specs.Moves.{Triple}
use Rattle.moves.specs.Causes.{sizes, said_in, residue_above, unpermuted, said_cause, after_reading, cause}
use Rattle.moves.proofs.Findings.{or_else_none, all_from_first_above}
use Rattle.exchange_moves.specs.Stages.{AnswerReady, Checked, Early, later_cause}

none_from_cause : (above list : Option ℕ) → cause_of above list ≡ None → (above ≡ None) × (list ≡ None)
none_from_cause None None e = (refl, refl)
none_from_cause None (Some layer) e = let z : ◌≡◌ {A = ℕ} 0 1 = cc in absurd (omega arith)
none_from_cause (Some offset) list e = let z : ◌≡◌ {A = ℕ} 0 1 = cc in absurd (omega arith)

early_cause : (above list : Option ℕ) (found : Cause) → cause_of above list ≡ Some found → Early found
early_cause None None found e = let z : ◌≡◌ {A = ℕ} 0 1 = cc in absurd (omega arith)
early_cause None (Some layer) found e = let same : NoPermutation layer ≡ found = cc in subst Early same tt
early_cause (Some offset) list found e = let same : ResidueNotBelowModulus offset ≡ found = cc in subst Early same tt

-- a content of n numbers, all below q
residues_in : (q n offset : ℕ) (content : List ℕ) → length content ≡ 2 * n → first_above q offset (words content) ≡ None → Residues q n (words content)
residues_in q n offset content e h = (length-words n content e, all_from_first_above q offset (words content) h)

permutations_in : (N K : ℕ) (content : List ℕ) → length content ≡ 2 * (K * N) → first_unpermuted N K (words content) ≡ None → Permutations N K (words content)
permutations_in N K content e h = permutations_from_first_failing N K (words content) (length-words (K * N) content e) h

-- a content is the writing of its numbers, since a message is a list of bytes
bytes_in : (n size at : ℕ) (message content : List ℕ) → AllByRecursion (λ b. b < 256) message → content ≡ take size (drop at message) → length content ≡ 2 * n → bytes (words content) ≡ content
bytes_in n size at message content low e l =
    bytes-words n content l (subst (AllByRecursion (λ b. b < 256)) (sym e) (All-take (λ b. b < 256) size (drop at message) (All-drop (λ b. b < 256) at message low)))

module _ {E : Type 0} (relation : RelationMeaning E) (scheme : SchemeMeaning) (message : List ℕ) (low : (i : ℕ) → get_or message i 0 < 256) where
  abbrev size : ℕ
  size = relation.layer_count * relation.layer_len

  message-bytes : AllByRecursion (λ b. b < 256) message
  message-bytes = All-from_get_or (λ b. b < 256) message 0 (λ i _. low i)

  abbrev Read : Answer → Type 0
  Read a = Handed (answer_slots (asked a) (sizes relation scheme)) message (answer_fields a)

  said_read : (a : Answer) → Read a → said_in relation scheme (asked a) (contents (answer_slots (asked a) (sizes relation scheme)) 0 message) ≡ said_by a
  said_read (First a b c d) h = ap (said_in relation scheme One) (sym h.contents)
  said_read (Second a b c d e) h = ap (said_in relation scheme Two) (sym h.contents)
  said_read (Third a b c d e) h = ap (said_in relation scheme Three) (sym h.contents)

  field_at : (f : Field) (n m : ℕ) → f.offset ≡ n → n + 3 ≡ m → field_above relation.q f ≡ first_above relation.q m (words f.content.now)
  field_at f n m e d = ap (λ k. first_above relation.q k (words f.content.now)) (ap (λ k. k + 3) e ∙ d)

  above_read : (a : Answer) → Read a → answer_above relation.q a ≡ residue_above relation scheme (said_by a)
  above_read (First a b c d) h =
      let o = h.offsets in
      ap₂ or_else (field_at a 0 3 (cc) refl) (field_at b (3 + 2 * size) (6 + 2 * size) (cc) (omega arith))
  above_read (Second a b c d e) h =
      let o = h.offsets in
      ap₂ or_else (field_at b (3 + 2 * size) (6 + 2 * size) (cc) (omega arith)) (field_at c (3 + 2 * size + 3 + 2 * size) (9 + 2 * (2 * size)) (cc) (omega arith))
  above_read (Third a b c d e) h =
      let o = h.offsets in
      ap₂ or_else (field_at b (3 + 2 * size) (6 + 2 * size) (cc) (omega arith)) (field_at c (3 + 2 * size + 3 + 2 * size) (9 + 2 * (2 * size)) (cc) (omega arith))

  unpermuted_read : (a : Answer) → answer_unpermuted relation.layer_len relation.layer_count a ≡ unpermuted relation scheme (said_by a)
  unpermuted_read (First a b c d) = refl
  unpermuted_read (Second a b c d e) = refl
  unpermuted_read (Third a b c d e) = refl

  findings_read : (a : Answer) → Read a → answer_cause relation.q relation.layer_len relation.layer_count a ≡ cause_of (residue_above relation scheme (said_by a)) (unpermuted relation scheme (said_by a))
  findings_read a h = ap₂ cause_of (above_read a h) (unpermuted_read a)

  cause_read : (a : Answer) (found : Option Cause) → Read a → found ≡ answer_cause relation.q relation.layer_len relation.layer_count a
      → (c : Triple) → cause relation scheme c (asked a) message ≡ or_else found (later_cause relation scheme c (said_by a))
  cause_read a found h e c =
      ap₂ (after_reading relation scheme) h.right (ap (said_cause relation scheme c) (said_read a h))
      ∙ ap (λ x. or_else x (later_cause relation scheme c (said_by a))) (sym (e ∙ findings_read a h))

  ready_read : (a : Answer) → Read a → answer_cause relation.q relation.layer_len relation.layer_count a ≡ None → AnswerReady relation scheme.width a
  ready_read (First a b c d) h e =
      let k = h.contents in
      let s = handed_sized _ message _ h in
      let none = none_from_cause _ None e in
      let both = or_else_none (field_above relation.q a) (field_above relation.q b) none.0 in
      let na : length a.content.now ≡ 2 * size = cc in
      let nb : length b.content.now ≡ 2 * size = cc in
      record {
        key_size = na;
        key_residues = residues_in relation.q size (a.offset + 3) a.content.now na both.0;
        mask_size = nb;
        mask_residues = residues_in relation.q size (b.offset + 3) b.content.now nb both.1;
        mask_bytes = bytes_in size (2 * size) (3 + 2 * size + 3) message b.content.now message-bytes (cc) nb;
        width_2 = cc;
        width_3 = cc;
      }
  ready_read (Second a b c d f) h e =
      let k = h.contents in
      let s = handed_sized _ message _ h in
      let none = none_from_cause _ (first_unpermuted relation.layer_len relation.layer_count (words a.content.now)) e in
      let both = or_else_none (field_above relation.q b) (field_above relation.q c) none.0 in
      let na : length a.content.now ≡ 2 * size = cc in
      let nb : length b.content.now ≡ 2 * size = cc in
      let nc : length c.content.now ≡ 2 * relation.free_len = cc in
      record {
        permutations_size = na;
        permuting = permutations_in relation.layer_len relation.layer_count a.content.now na none.1;
        permutations_bytes = bytes_in size (2 * size) 3 message a.content.now message-bytes (cc) na;
        layers_size = nb;
        layers_residues = residues_in relation.q size (b.offset + 3) b.content.now nb both.0;
        free_size = nc;
        free_residues = residues_in relation.q relation.free_len (c.offset + 3) c.content.now nc both.1;
        lower_width = cc;
        upper_width = cc;
      }
  ready_read (Third a b c d f) h e =
      let k = h.contents in
      let s = handed_sized _ message _ h in
      let none = none_from_cause _ (first_unpermuted relation.layer_len relation.layer_count (words a.content.now)) e in
      let both = or_else_none (field_above relation.q b) (field_above relation.q c) none.0 in
      let na : length a.content.now ≡ 2 * size = cc in
      let nb : length b.content.now ≡ 2 * size = cc in
      let nc : length c.content.now ≡ 2 * relation.free_len = cc in
      record {
        permutations_size = na;
        permuting = permutations_in relation.layer_len relation.layer_count a.content.now na none.1;
        permutations_bytes = bytes_in size (2 * size) 3 message a.content.now message-bytes (cc) na;
        layers_size = nb;
        layers_residues = residues_in relation.q size (b.offset + 3) b.content.now nb both.0;
        free_size = nc;
        free_residues = residues_in relation.q relation.free_len (c.offset + 3) c.content.now nc both.1;
        lower_width = cc;
        upper_width = cc;
      }

  -- as the code has them: the sizes, the modulus and the layout
  module _ (challenge : Challenge) (a : Answer) (asks : asked a ≡ challenge) (given : Sizes) (q : ℕ) (layout : Layout) (same_sizes : given ≡ sizes relation scheme) (same_q : q ≡ relation.q)
      (same_layout : layout ≡ record { layer_count = relation.layer_count; layer_len = relation.layer_len }) (h : Handed (answer_slots challenge given) message (answer_fields a)) where
    abbrev found_by_code : Option Cause
    found_by_code = answer_cause q layout.layer_len layout.layer_count a

    read : Read a
    read =
        subst (λ c. Handed (answer_slots c (sizes relation scheme)) message (answer_fields a)) (sym asks)
        (subst (λ s. Handed (answer_slots challenge s) message (answer_fields a)) same_sizes h)

    found_read : found_by_code ≡ answer_cause relation.q relation.layer_len relation.layer_count a
    found_read = ap₂ (λ r l. answer_cause r l.layer_len l.layer_count a) same_q same_layout

    cause-asked : (found : Option Cause) → found_by_code ≡ found → (c : Triple) → cause relation scheme c challenge message ≡ or_else found (later_cause relation scheme c (said_by a))
    cause-asked found e c = ap (λ x. cause relation scheme c x message) (sym asks) ∙ cause_read a found read (sym e ∙ found_read) c

    pub checked : found_by_code ≡ None → Checked relation scheme challenge message a
    checked e = record { ready = ready_read a read (sym found_read ∙ e); cause = cause-asked None e }

    pub turned_down : (found : Cause) → found_by_code ≡ Some found → Early found × ((c : Triple) → cause relation scheme c challenge message ≡ Some found)
    turned_down found e = (early_cause (answer_above q a) (answer_unpermuted layout.layer_len layout.layer_count a) found e, cause-asked (Some found) e)
