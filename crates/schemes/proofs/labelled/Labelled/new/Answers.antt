use Rattle.std.proofs.Common.{◌≡◌, ℕ, ◌-◌, ◌≤◌, ◌++◌, length, take, replicate, ap, ◌∙◌, ap₂, arith, rules}
use Rattle.std.proofs.lemmas.List.{take_all, take-replicate}
use Rattle.std.proofs.lemmas.Bool.Decides.{nat_tests}
use Rattle.schemes.specs.Labels.{labelled, fitting}
use Rattle.schemes.proofs.labelled.Labelled.new.Goals as goal

pub returns : goal.returns
returns g c =
    let started = c.in_ok-start.ensures in
    let fed = c.in_ok-feed.ensures in
    let old = g.S.Scheme.meaning c.args.below in
    let new = g.S.Scheme.meaning c.feed.new.self in
    let label = c.args.label.now in
    let held : c.in_ok-text.text.items ≡ label = search rules in
    let within : length label ≤ 16 = search rules in
    let narrow : old.width ≤ 128 = (g.S.Scheme.laws c.args.below).width_high in
    let width : c.width-width.result ≡ old.width = c.width-width.ensures in
    let coins : take c.width-width.result (replicate {A = ℕ} 128 0) ≡ replicate old.width 0 =
    ap (λ n. take n (replicate 128 0)) width ∙ take-replicate old.width 128 0 narrow in
    let same : new ≡ old = fed.kept ∙ started.kept in
    let short : length label ≤ old.limit = omega arith in
    let text : fitting c.in_ok-text.text.items new ≡ label = ap₂ (λ m l. take m.limit l) same held ∙ take_all old.limit label short in (
      grind (arith, nat_tests),
      (
        ap₂ labelled text same,
        record {
          values = λ rest. fed.outcome.1.values rest ∙ started.outcome.1.values (label ++ rest) ∙ ap (λ z. old.value z (label ++ rest)) coins;
          room = fed.outcome.1.room ∙ ap (λ r. r - length label) started.outcome.1.room;
        },
      ),
    )
