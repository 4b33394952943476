use Rattle.std.proofs.Common.{◌+◌, ◌%◌, ◌++◌, length, ap, ◌∙◌}
use Rattle.sha256.specs.State.{hash_after}
use Rattle.sha256.proofs.Paddings.{made_is}
use Rattle.sha256.proofs.state.Blocks.pad.Goals as goal

pub returns : goal.returns
returns c =
    let s = c.args.self.now in
    let is =
    made_is c.args.count c.zeros-zeros.result c.first_byte-padding.result _ c.zeros-zeros.ensures
    c.first_byte-padding.ensures (c.copy_from_slice.ensures.after ∙ c.length_in_bits.ensures) in
    record {
      hash = λ m. c.absorb.ensures.hash m ∙ ap (λ x. hash_after s (x ++ m)) is;
      filled = c.absorb.ensures.filled ∙ ap (λ x. (s.filled + length x) % 64) is;
    }
