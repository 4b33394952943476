-- What is committed to, as the code is given it.
use Rattle.std.specs.Prelude.{ℕ, List}
use Rattle.vectors.specs.Words.{words}
use Rattle.vectors.specs.Residues.{minus}
use Rattle.vectors.specs.declared.part.Part.{Part}
use Rattle.vectors.specs.declared.part.Part.TheVariants.{Bytes, Words}
use Rattle.relation.specs.Meaning.{RelationMeaning}
use Rattle.openings.specs.declared.images.ImageKind.{ImageKind}
use Rattle.openings.specs.declared.images.ImageKind.TheVariants.{Whole, LessTarget}

-- the numbers of a part: as they are, or two bytes each
abbrev pub numbers_in : Part → List ℕ
numbers_in (Bytes part) = words part.now
numbers_in (Words part) = part.now

-- the image of layers and a free part, or that less the target
abbrev pub shown_image : {E : Type 0} → RelationMeaning E → ImageKind → List ℕ → List ℕ → List ℕ
shown_image relation Whole zs t = relation.image zs t
shown_image relation LessTarget zs t = minus relation.q (relation.image zs t) relation.target
