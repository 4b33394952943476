-- Commitments that are computed at challenges 2 and 3, and what comparing them says.
use Rattle.std.proofs.Common.{◌≡◌, ℕ, Bool, List, ◌++◌, Option, sym, ap, ◌∙◌, ap₂}
use Rattle.refusals.specs.declared.cause.Cause.{Cause}
use Rattle.vectors.specs.declared.layout.Layout.{Layout}
use Rattle.vectors.specs.Layers.{permuted_layers}
use Rattle.vectors.specs.Lists.{same}
use Rattle.vectors.specs.Words.{bytes, words}
use Rattle.vectors.proofs.Words.{bytes-append}
use Rattle.relation.specs.Meaning.{RelationMeaning}
use Rattle.commitment.specs.Meaning.{SchemeMeaning}
use Rattle.messages.specs.Checks.{or_else}
use Rattle.openings.specs.declared.images.ImageKind.{ImageKind}
use Rattle.openings.specs.Shown.{shown_image}
use Rattle.moves.specs.Moves.{act, with_image}
use Rattle.answer_openings.specs.declared.opening.Shown.{Shown}
use Rattle.answer_openings.specs.Openings.{checked_cause, shown_cause, long_cause}

module _ {E : Type 0} (relation : RelationMeaning E) (scheme : SchemeMeaning) (lower upper : Shown) (kind : ImageKind) (permutations layers free : List ℕ) (restored : bytes (words permutations) ≡ permutations)
    (value : List ℕ) (computed : value ≡ scheme.value lower.coins.now (permutations ++ bytes (shown_image relation kind layers free)))
    (opened : Bool) (tested : opened ≡ same lower.commitment.now value) (first : Option Cause) (said : first ≡ checked_cause lower opened) where
  abbrev image : List ℕ
  image = shown_image relation kind layers free

  abbrev moved : List ℕ
  moved = bytes (act relation (words permutations) layers)

  with_image-computed : value ≡ scheme.value lower.coins.now (with_image relation (words permutations) image)
  with_image-computed =
      computed ∙ ap (scheme.value lower.coins.now) (ap (λ xs. xs ++ bytes image) (sym restored) ∙ sym (bytes-append (words permutations) image))

  pub cause_by_first : long_cause relation scheme lower upper kind (words permutations) layers free ≡ or_else first (shown_cause scheme upper moved)
  cause_by_first = ap (λ x. or_else x (shown_cause scheme upper moved)) (sym (said ∙ ap (checked_cause lower) (tested ∙ ap (same lower.commitment.now) with_image-computed)))

  module _ (scheme' : SchemeMeaning) (kept : scheme' ≡ scheme) (layout : Layout) (same_layout : layout ≡ record { layer_count = relation.layer_count; layer_len = relation.layer_len }) (value' : List ℕ)
      (computed' : value' ≡ scheme'.value upper.coins.now (bytes (permuted_layers layout.layer_len layout.layer_count (words permutations) layers)))
      (opened' : Bool) (tested' : opened' ≡ same upper.commitment.now value') (second : Option Cause) (said' : second ≡ checked_cause upper opened') where
    pub cause_by_both : long_cause relation scheme lower upper kind (words permutations) layers free ≡ or_else first second
    cause_by_both =
        let e : value' ≡ scheme.value upper.coins.now moved = computed' ∙ ap₂ (λ s l. s.value upper.coins.now (bytes (permuted_layers l.layer_len l.layer_count (words permutations) layers))) kept same_layout in
        cause_by_first ∙ ap (or_else first) (sym (said' ∙ ap (checked_cause upper) (tested' ∙ ap (same upper.commitment.now) e)))
