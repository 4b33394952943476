-- There is no cause of a no exactly where the message is the writing of an accepted answer.
use Rattle.std.proofs.Common.{◌≡◌, ℕ, ◌+◌, ◌*◌, ◌<◌, List, length, Some, None, Option, sym, refl, ap, ◌∙◌, ap₂, mul-le-mul, arith}
use Rattle.std.proofs.lemmas.Slice.Eq.{bytes_eq-Decides}
use Rattle.std.proofs.lemmas.Bool.{cond-true}
use Rattle.refusals.specs.declared.fault.Fault.{Fault}
use Rattle.refusals.specs.declared.cause.Cause.{Cause}
use Rattle.refusals.specs.declared.cause.Cause.TheVariants.{NotOpened}
use Rattle.vectors.specs.Lists.{same}
use Rattle.vectors.proofs.Failing.{permutations_from_first_failing, first_failing_from_permutations}
use Rattle.vectors.proofs.Words.{words-bytes}
use Rattle.relation.specs.Meaning.{RelationMeaning, Layers, Free}
use Rattle.relation.specs.Laws.{RelationLaws}
use Rattle.commitment.specs.Meaning.{SchemeMeaning, SchemeLaws}
use Rattle.messages.specs.declared.challenge.Challenge.{Challenge}
use Rattle.messages.specs.declared.challenge.Challenge.TheVariants.{One, Two, Three}
use Rattle.messages.specs.Contents.{Said, to_first, to_second, to_third, said_to, said_contents, answer_written, answer_slots, Fits}
use Rattle.messages.specs.Reading.{reading_fault, contents}
use Rattle.messages.specs.Checks.{cause_of, first_above}
use Rattle.messages.specs.Theorems.{Short}
use Rattle.messages.proofs.RoundTrip.{answers_read}
use Rattle.moves.specs.Moves.{Triple, numbered, Opening, openings, Shapes, Opens, Fields, Accepts}
use Rattle.moves.specs.Causes.{sizes, said_in, residue_above, unpermuted, misshapen, shape_cause, opening_cause, said_cause, after_reading, Decided}
use Rattle.moves.proofs.Findings.{cond_none_first, or_else_none, none_or_else, all_from_first_above, first_above_from_all, passes_from_first_failing, first_failing_from_passes}

cause_of_none : (above unpermuted : Option ℕ) → cause_of above unpermuted ≡ None → (above ≡ None) × (unpermuted ≡ None)
cause_of_none None None e = (refl, refl)
cause_of_none None (Some layer) e = let z : ◌≡◌ {A = ℕ} 0 1 = cc in absurd (omega arith)
cause_of_none (Some offset) unpermuted e = let z : ◌≡◌ {A = ℕ} 0 1 = cc in absurd (omega arith)

module _ {E : Type 0} (relation : RelationMeaning E) (scheme : SchemeMeaning) where
  abbrev size : ℕ
  size = relation.layer_count * relation.layer_len

  shape_cause_none : (layer : Option ℕ) → shape_cause relation scheme layer ≡ None → layer ≡ None
  shape_cause_none None e = refl
  shape_cause_none (Some layer) e = let z : ◌≡◌ {A = ℕ} 0 1 = cc in absurd (omega arith)

  after_reading_none : (fault : Option Fault) (next : Option Cause) → after_reading relation scheme fault next ≡ None → (fault ≡ None) × (next ≡ None)
  after_reading_none None next e = (refl, e)
  after_reading_none (Some fault) next e = let z : ◌≡◌ {A = ℕ} 0 1 = cc in absurd (omega arith)

  -- the lengths of fields, in numbers and in bytes
  pub fits_from_fields : (said : Said) → Fields relation scheme said → Fits (sizes relation scheme) said
  fits_from_fields (to_first e r a b) (he, hr, ha, hb) = (ap (λ n. 2 * n) he.0, ap (λ n. 2 * n) hr.0, ha, hb)
  fits_from_fields (to_second p z u a b) (hp, hz, hu, ha, hb) = (ap (λ n. 2 * n) hp.size, ap (λ n. 2 * n) hz.0, ap (λ n. 2 * n) hu.0, ha, hb)
  fits_from_fields (to_third p r v a b) (hp, hr, hv, ha, hb) = (ap (λ n. 2 * n) hp.size, ap (λ n. 2 * n) hr.0, ap (λ n. 2 * n) hv.0, ha, hb)

  layers_from_first_above : (offset : ℕ) (xs : List ℕ) → 2 * length xs ≡ 2 * size → first_above relation.q offset xs ≡ None → Layers relation xs
  layers_from_first_above offset xs e h = (omega arith, all_from_first_above relation.q offset xs h)

  free_from_first_above : (offset : ℕ) (xs : List ℕ) → 2 * length xs ≡ 2 * relation.free_len → first_above relation.q offset xs ≡ None → Free relation xs
  free_from_first_above offset xs e h = (omega arith, all_from_first_above relation.q offset xs h)

  fields_from_checks : (said : Said) → Fits (sizes relation scheme) said → residue_above relation scheme said ≡ None → unpermuted relation scheme said ≡ None → Fields relation scheme said
  fields_from_checks (to_first e r a b) (fe, fr, fa, fb) h k =
      let both = or_else_none (first_above relation.q 3 e) (first_above relation.q (6 + 2 * size) r) h in
      (layers_from_first_above 3 e fe both.0, layers_from_first_above (6 + 2 * size) r fr both.1, fa, fb)
  fields_from_checks (to_second p z u a b) (fp, fz, fu, fa, fb) h k =
      let both = or_else_none (first_above relation.q (6 + 2 * size) z) (first_above relation.q (9 + 2 * (2 * size)) u) h in
      (permutations_from_first_failing relation.layer_len relation.layer_count p (omega arith) k, layers_from_first_above (6 + 2 * size) z fz both.0, free_from_first_above (9 + 2 * (2 * size)) u fu both.1, fa, fb)
  fields_from_checks (to_third p r v a b) (fp, fr, fv, fa, fb) h k =
      let both = or_else_none (first_above relation.q (6 + 2 * size) r) (first_above relation.q (9 + 2 * (2 * size)) v) h in
      (permutations_from_first_failing relation.layer_len relation.layer_count p (omega arith) k, layers_from_first_above (6 + 2 * size) r fr both.0, free_from_first_above (9 + 2 * (2 * size)) v fv both.1, fa, fb)

  residue_above_from_fields : (said : Said) → Fields relation scheme said → residue_above relation scheme said ≡ None
  residue_above_from_fields (to_first e r a b) h =
      none_or_else _ _ (first_above_from_all relation.q 3 e h.0.1) (first_above_from_all relation.q (6 + 2 * size) r h.1.1)
  residue_above_from_fields (to_second p z u a b) h =
      none_or_else _ _ (first_above_from_all relation.q (6 + 2 * size) z h.1.1) (first_above_from_all relation.q (9 + 2 * (2 * size)) u h.2.1)
  residue_above_from_fields (to_third p r v a b) h =
      none_or_else _ _ (first_above_from_all relation.q (6 + 2 * size) r h.1.1) (first_above_from_all relation.q (9 + 2 * (2 * size)) v h.2.1)

  unpermuted_from_fields : (said : Said) → Fields relation scheme said → unpermuted relation scheme said ≡ None
  unpermuted_from_fields (to_first e r a b) h = refl
  unpermuted_from_fields (to_second p z u a b) h = first_failing_from_permutations relation.layer_len relation.layer_count p h.0
  unpermuted_from_fields (to_third p r v a b) h = first_failing_from_permutations relation.layer_len relation.layer_count p h.0

  shapes_from_misshapen : (said : Said) → misshapen relation scheme said ≡ None → Shapes relation said
  shapes_from_misshapen (to_first e r a b) h = passes_from_first_failing relation.shape relation.layer_len e relation.layer_count h
  shapes_from_misshapen (to_second p z u a b) h = tt
  shapes_from_misshapen (to_third p r v a b) h = tt

  misshapen_from_shapes : (said : Said) → Shapes relation said → misshapen relation scheme said ≡ None
  misshapen_from_shapes (to_first e r a b) h = first_failing_from_passes relation.shape relation.layer_len e relation.layer_count h
  misshapen_from_shapes (to_second p z u a b) h = refl
  misshapen_from_shapes (to_third p r v a b) h = refl

  module _ (c : Triple) where
    opens_from_opening_cause : (o : Opening) → opening_cause relation scheme c o ≡ None → Opens relation scheme c o
    opens_from_opening_cause o h =
        (bytes_eq-Decides (numbered c o.number) (scheme.value o.coins o.message)).0
        (cond_none_first (same (numbered c o.number) (scheme.value o.coins o.message)) None (NotOpened o.number) h).0

    opening_cause_from_opens : (o : Opening) → Opens relation scheme c o → opening_cause relation scheme c o ≡ None
    opening_cause_from_opens o h =
        cond-true (same (numbered c o.number) (scheme.value o.coins o.message)) _ _
        ((bytes_eq-Decides (numbered c o.number) (scheme.value o.coins o.message)).1 h)

    pub accepts_from_said_cause : (said : Said) → Fits (sizes relation scheme) said → said_cause relation scheme c said ≡ None → Accepts relation scheme c said
    accepts_from_said_cause said fits h =
        let checks = or_else_none (cause_of (residue_above relation scheme said) (unpermuted relation scheme said)) _ h in
        let shapes = or_else_none (shape_cause relation scheme (misshapen relation scheme said)) _ checks.1 in
        let opening = or_else_none (opening_cause relation scheme c (openings relation said).0) (opening_cause relation scheme c (openings relation said).1) shapes.1 in
        let right = cause_of_none (residue_above relation scheme said) (unpermuted relation scheme said) checks.0 in
        record {
          fields = fields_from_checks said fits right.0 right.1;
          shapes = shapes_from_misshapen said (shape_cause_none (misshapen relation scheme said) shapes.0);
          first = opens_from_opening_cause (openings relation said).0 opening.0;
          second = opens_from_opening_cause (openings relation said).1 opening.1;
        }

    pub said_cause_from_accepts : (said : Said) → Accepts relation scheme c said → said_cause relation scheme c said ≡ None
    said_cause_from_accepts said h =
        none_or_else (cause_of (residue_above relation scheme said) (unpermuted relation scheme said)) _
        (ap₂ cause_of (residue_above_from_fields said h.fields) (unpermuted_from_fields said h.fields))
        (none_or_else (shape_cause relation scheme (misshapen relation scheme said)) _ (ap (shape_cause relation scheme) (misshapen_from_shapes said h.shapes))
        (none_or_else (opening_cause relation scheme c (openings relation said).0) (opening_cause relation scheme c (openings relation said).1)
        (opening_cause_from_opens (openings relation said).0 h.first) (opening_cause_from_opens (openings relation said).1 h.second)))

  pub said_in-contents : (said : Said) → said_in relation scheme (said_to said) (said_contents said) ≡ said
  said_in-contents (to_first e r a b) = ap₂ (λ x y. to_first x y a b) (words-bytes e) (words-bytes r)
  said_in-contents (to_second p z u a b) = λ i. to_second (words-bytes p i) (words-bytes z i) (words-bytes u i) a b
  said_in-contents (to_third p r v a b) = λ i. to_third (words-bytes p i) (words-bytes r i) (words-bytes v i) a b

  module _ (laws : RelationLaws relation) (scheme_laws : SchemeLaws scheme) where
    layers_short : 2 * size < 65536
    layers_short = omega (arith, mul-le-mul laws.layer_count_range.1 laws.layer_len_range.1)

    free_short : 2 * relation.free_len < 65536
    free_short = omega (arith, laws.free_len_range)

    width-short : scheme.width < 65536
    width-short = omega (arith, scheme_laws.width_high)

    pub slots_short : (challenge : Challenge) → Short (answer_slots challenge (sizes relation scheme))
    slots_short One = (layers_short, (layers_short, (width-short, (width-short, tt))))
    slots_short Two = (layers_short, (layers_short, (free_short, (width-short, (width-short, tt)))))
    slots_short Three = (layers_short, (layers_short, (free_short, (width-short, (width-short, tt)))))

    pub said_in-written : (challenge : Challenge) (message : List ℕ) (said : Said) → said_to said ≡ challenge → Fits (sizes relation scheme) said → answer_written said ≡ message
        → (reading_fault (answer_slots challenge (sizes relation scheme)) 0 message ≡ None)
        × (said_in relation scheme challenge (contents (answer_slots challenge (sizes relation scheme)) 0 message) ≡ said)
    said_in-written challenge message said t f w =
        let r = (answers_read challenge (sizes relation scheme)).reads said t f (slots_short challenge) in (
          ap (reading_fault (answer_slots challenge (sizes relation scheme)) 0) (sym w) ∙ r.0,
          ap (λ m. said_in relation scheme challenge (contents (answer_slots challenge (sizes relation scheme)) 0 m)) (sym w) ∙ ap (said_in relation scheme challenge) r.1
              ∙ ap (λ h. said_in relation scheme h (said_contents said)) (sym t) ∙ said_in-contents said,
        )

    pub decided : Decided relation scheme
    decided c challenge message low = (
      (λ h.
          let both = after_reading_none (reading_fault (answer_slots challenge (sizes relation scheme)) 0 message) _ h in
          let w = (answers_read challenge (sizes relation scheme)).is_written message size relation.free_len low refl refl both.0 in
          let e = (said_in-written challenge message w.0 w.1 w.2 w.3).1 in
          (w.0, w.1, w.3, accepts_from_said_cause c w.0 w.2 (ap (said_cause relation scheme c) (sym e) ∙ both.1))),
      (λ (said, t, w, accepts).
          let r = said_in-written challenge message said t (fits_from_fields said accepts.fields) w in
          ap₂ (after_reading relation scheme) r.0 (ap (said_cause relation scheme c) r.1 ∙ said_cause_from_accepts c said accepts)),
    )
