use Rattle.std.proofs.Common.{◌≡◌, ◌+◌, ◌-◌, ◌*◌, get_or, ◌+ℤ◌, sym, ap, ◌∙◌, ap₂, arith, w32, SFits, to_z, of_z, rules}
use Rattle.std.proofs.lemmas.Int.{to_z-of_z}
use Rattle.relation_laws.specs.Short.{size, signed}
use Rattle.short_statement.proofs.Places.{power_before, power_small, signed_place_sum-before, size-signed, size-with_doubled}
use Rattle.short_statement.proofs.sums.signed_place_sum.Goals as goal

pub with_doubled-sum-requires : goal.with_doubled-sum-requires
with_doubled-sum-requires c =
    let K = c.args.layer_count in
    let N = c.args.layer_len in
    let j = c.loop-j.j in
    let f : SFits w32 c.signed.result = search rules in
    let x = get_or c.args.layers.now ((j - 1) * N + c.args.i) 0 in
    let e : size (to_z w32 (of_z w32 c.signed.result)) ≡ size (signed c.args.q x) = ap size (to_z-of_z w32 c.signed.result f ∙ c.signed.ensures) in
    let p = power_before K N j c.args.i c.loop-j-test.true c.loop-j.auto.j in
    omega (arith, e, size-signed c.args.q x (search rules), c.loop-j.invariant.1, p, power_small (K - (j - 1)) (omega arith))

pub loop-j-preserved : goal.loop-j-preserved
loop-j-preserved c =
    let K = c.args.layer_count in
    let N = c.args.layer_len in
    let j = c.loop-j.j in
    let h = c.loop-j-test.true in
    let l = c.loop-j.auto.j in
    let f : SFits w32 c.signed.result = search rules in
    let g : SFits w32 c.with_doubled-sum.result = search rules in
    let x = get_or c.args.layers.now ((j - 1) * N + c.args.i) 0 in
    let a = to_z-of_z w32 c.with_doubled-sum.result g in
    let b = to_z-of_z w32 c.signed.result f ∙ c.signed.ensures in (
      a ∙ c.with_doubled-sum.ensures ∙ ap₂ (λ y z. y +ℤ (z +ℤ z)) b c.loop-j.invariant.0 ∙ sym (signed_place_sum-before K N j c.args.i h l c.args.layers.now c.args.q),
      omega (
        arith,
        ap size (a ∙ c.with_doubled-sum.ensures ∙ ap₂ (λ y z. y +ℤ (z +ℤ z)) b c.loop-j.sum-is),
        size-with_doubled (signed c.args.q x) c.loop-j.sum,
        size-signed c.args.q x (search rules),
        ap size c.loop-j.sum-is,
        c.loop-j.invariant.1,
        power_before K N j c.args.i h l,
      ),
    )
