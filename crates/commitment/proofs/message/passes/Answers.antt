use Rattle.std.proofs.Common.{◌≡◌, true, false, ltb, length, sym, ap, ◌∙◌, rules}
use Rattle.std.specs.Slice.Iter.{iter_rest}
use Rattle.vectors.specs.Parts.{content}
use Rattle.commitment.specs.Messages.{message}
use Rattle.commitment.proofs.Feeding.{left, passes_on, passes_none, passes_here, at_end}
use Rattle.commitment.proofs.message.passes.Goals as goal

pub returns : goal.returns
returns c =
    let run = c.try_fold.ensures.ran in
    let rest = iter_rest run.4.0 in
    let so_far =
    passes_on _ (λ p q x turn. let call = turn.1 in let h : turn.0 ≡ left p.1 (length (content x.now)) = search rules in sym turn.2 ∙ h)
    run.0 c.iter.result run.4.0 (tt, c.args.limit) (run.2, run.3) run.4.1 run.5 in
    let last : c.is_none.result ≡ ltb run.3 (length (message rest)) =
    at_end run.1 run.4.2 run.6
    (λ end fits. let none : c.is_none.result ≡ false = search rules in none ∙ passes_none run.3 rest end.0)
    (λ x next over.
    let call = over.3 in
    let h : over.0 ≡ left run.3 (length (content x.now)) = search rules in
    let none : c.is_none.result ≡ true = let r = over.5 in search rules in
    none ∙ passes_here run.3 x.now _ rest next (sym over.4 ∙ h)) in
    last ∙ so_far ∙ ap (λ l. ltb c.args.limit (length (message l))) c.iter.ensures.rest
