use Rattle.std.proofs.Common.{rules, ◌≡◌, ◌+◌, ◌*◌, ap, ◌∙◌}
use Rattle.std.specs.List.{position}
use Rattle.std.specs.Option.{option_map}
use Rattle.std.proofs.lemmas.Iterator.{YieldsList-from_slice}
use Rattle.std.proofs.lemmas.Iterator.Search.{position_from_yields_List}
use borrow.Author.Tests.{tests}
use Rattle.answer_checks.proofs.Residues.{pair_above, first_above_is}
use Rattle.answer_checks.proofs.first_above.Goals as goal

pub returns : goal.returns
returns c =
    let p : c.position.result ≡ position (pair_above c.args.q) c.as_chunks.result.0.now = position_from_yields_List (pair_above c.args.q) _ _ _ c.position.ensures.ran (YieldsList-from_slice c.as_chunks.result.0.now (cc)) (λ x b q k. search (rules, tests)) in
    let m : c.map.result ≡ option_map (λ i. c.args.offset + 2 * i) c.position.result = search rules in
    m ∙ ap (option_map (λ i. c.args.offset + 2 * i)) (p ∙ ap (position (pair_above c.args.q)) c.as_chunks.ensures.front)
    ∙ first_above_is c.args.q c.args.offset c.args.content.now
