-- Every statement whose making is not refused gives a relation with all the laws.
use Rattle.std.specs.Prelude.{◌≡◌, None}
use Rattle.relation.specs.Laws.{RelationLaws, KeyNumbers}
use Rattle.relation_laws.specs.Statements.{Statement, weight_fault, short_fault, noise_fault}
use Rattle.relation_laws.specs.Weight.{weight}
use Rattle.relation_laws.specs.Short.{short}
use Rattle.relation_laws.specs.Noise.{noise}

abbrev pub WeightLawful : Type 0
WeightLawful = (s : Statement) → weight_fault s ≡ None → RelationLaws (weight s)

abbrev pub ShortLawful : Type 0
ShortLawful = (s : Statement) → short_fault s ≡ None → RelationLaws (short s)

abbrev pub NoiseLawful : Type 0
NoiseLawful = (s : Statement) → noise_fault s ≡ None → RelationLaws (noise s)

-- a value that is no key of a statement is refused by one of the key's numbers, 21 to 24
abbrev pub KeysNumbered : Type 0
KeysNumbered = (s : Statement) → KeyNumbers (weight s) × KeyNumbers (short s) × KeyNumbers (noise s)
