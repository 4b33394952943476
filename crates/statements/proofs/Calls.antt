-- Shapes layer by layer, and what gathering refuses where there is one layer.
use Rattle.std.proofs.Common.{◌≡◌, ℕ, zero, suc, ◌+◌, ◌*◌, ◌<◌, Bool, true, false, cond, ◌&&◌, eqb, List, length, Some, None, Option, ap, ◌∙◌, ⊎_elim, add-one, arith}
use Rattle.std.proofs.lemmas.Bool.{cases_eq, eq-eqb, eqb-true, and_parts, and_from, and_left, and_right, cond-true}
use Rattle.vectors.specs.Layers.{layer}
use Rattle.vectors.specs.Lists.{same}
use Rattle.vectors.specs.Residues.{below}
use Rattle.relation.specs.Meaning.{RelationMeaning, shapes}
use Rattle.relation.specs.Faults.{whole, gather_fault}
use Rattle.relation_laws.proofs.Lists.{layer_only}

module _ {E : Type 0} (relation : RelationMeaning E) where
  pub shapes_more : (zs : List ℕ) (n : ℕ) → shapes relation n zs ≡ true → relation.shape n (layer relation.layer_len n zs) ≡ true → shapes relation (n + 1) zs ≡ true
  shapes_more zs n h e =
      ap (λ k. shapes relation k zs) (add-one n) ∙ and_from (shapes relation n zs) (relation.shape n (layer relation.layer_len n zs)) h e

  pub shapes_unshaped : (zs : List ℕ) (n j : ℕ) → j < n → relation.shape j (layer relation.layer_len j zs) ≡ false → shapes relation n zs ≡ false
  shapes_unshaped zs zero j l h = absurd (omega arith)
  shapes_unshaped zs (suc n) j l h =
      ⊎_elim (λ (e : j ≡ n). and_right (shapes relation n zs) (relation.shape n (layer relation.layer_len n zs)) (rw e at h))
      (λ (d : j ≡ n → ⊥). and_left (shapes relation n zs) (relation.shape n (layer relation.layer_len n zs)) (shapes_unshaped zs n j (omega arith) h)) (cases_eq j n)

  -- arguments of gather of the right lengths, with residues only, where there is one layer
  pub gather_fault_only : (zs t : List ℕ) (key_len : ℕ) → key_len ≡ relation.key_len → whole relation zs t ≡ true → relation.layer_count ≡ 1
      → gather_fault relation zs t key_len ≡ cond (relation.shape 0 zs && same (relation.image zs t) relation.target) None (Some 25)
  gather_fault_only zs t key_len e w h =
      let fitting : Bool = same (relation.image zs t) relation.target in
      let shaped : Bool = shapes relation relation.layer_count zs in
      let parts = and_parts (eqb (length zs) (relation.layer_count * relation.layer_len)) (eqb (length t) relation.free_len && (below relation.q zs && below relation.q t)) w in
      let all : length zs ≡ relation.layer_count * relation.layer_len = eqb-true (length zs) (relation.layer_count * relation.layer_len) parts.0 in
      let one : relation.layer_count * relation.layer_len ≡ 1 * relation.layer_len = ap (λ n. n * relation.layer_len) h in
      let only : shaped ≡ relation.shape 0 zs = ap (λ n. shapes relation n zs) h ∙ ap (relation.shape 0) (layer_only relation.layer_len zs 0 (omega arith) (omega arith)) in
      cond-true (eqb key_len relation.key_len && whole relation zs t) (cond (shaped && fitting) None (Some 25)) (Some 16)
      (and_from (eqb key_len relation.key_len) (whole relation zs t) (eq-eqb key_len relation.key_len e) w)
      ∙ ap (λ b. cond {A = Option ℕ} (b && fitting) None (Some 25)) only
