use Rattle.std.proofs.lemmas.Slice.Eq.{slice_eq-Decides}
use Rattle.commitment.proofs.Opening.{same_decided}
use Rattle.answer_openings.proofs.opening.has_value.Goals as goal
use Rattle.std.proofs.lemmas.Bool.Decides.{Decides-eqb}

pub returns : goal.returns
returns c = same_decided c.args.shown.commitment.now c.args.value.now c.eq.result (slice_eq-Decides Decides-eqb _ _ _ c.eq.ensures)
