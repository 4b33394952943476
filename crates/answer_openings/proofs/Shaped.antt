-- Testing the shapes of layers one after another.
use Rattle.std.proofs.Common.{◌≡◌, ℕ, ◌+◌, ◌-◌, ◌*◌, ◌<◌, List, take, drop, None, ap, ◌∙◌}
use Rattle.std.proofs.lemmas.Bool.{cond-true, and_from, lt-ltb, eq-eqb}
use Rattle.vectors.specs.Layers.{layer}
use Rattle.vectors.proofs.Layers.{row_at, layer_residues}
use Rattle.vectors.proofs.Residues.{below_from_all}
use Rattle.relation.specs.Meaning.{RelationMeaning, Layers}
use Rattle.relation.specs.Faults.{shape_fault}

module _ {E : Type 0} (relation : RelationMeaning E) (zs : List ℕ) (j start end : ℕ) (s : start ≡ j * relation.layer_len) (e : end ≡ j * relation.layer_len + relation.layer_len) where
  -- layer j as the checker reads `&zs[start..end]`
  pub part-layer : take (end - start) (drop start zs) ≡ layer relation.layer_len j zs
  part-layer = row_at relation.layer_len j start end zs s e

  pub shape_none : Layers relation zs → j < relation.layer_count → shape_fault relation j (take (end - start) (drop start zs)) ≡ None
  shape_none h l =
      let r = layer_residues relation.q relation.layer_len relation.layer_count zs j h l in
      ap (shape_fault relation j) part-layer ∙ cond-true _ _ _ (and_from _ _ (lt-ltb _ _ l) (and_from _ _ (eq-eqb _ _ r.0) (below_from_all relation.q _ r.1)))
