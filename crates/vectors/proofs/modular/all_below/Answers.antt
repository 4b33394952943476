use Rattle.std.proofs.Common.{nat_lt, sym, ◌∙◌, rules, tests}
use Rattle.std.proofs.lemmas.Iterator.{YieldsList-from_slice}
use Rattle.std.proofs.lemmas.Iterator.Search.{all_from_yields_List}
use Rattle.vectors.proofs.Residues.{below_is_all}
use Rattle.vectors.proofs.modular.all_below.Goals as goal

pub returns : goal.returns
returns c =
    all_from_yields_List (λ x. nat_lt x c.args.bound) _ _ c.all.result c.all.ensures.ran (YieldsList-from_slice c.args.values.now cc) (λ x b q k. search (rules, tests))
    ∙ sym (below_is_all c.args.bound c.args.values.now)
