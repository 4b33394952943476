use Rattle.std.proofs.Common.{◌+◌, ◌≤◌, length, arith}
use Rattle.sha256.proofs.Chains.{held_part, held_whole}
use Rattle.sha256.proofs.state.Blocks.hold.Goals as goal

pub returns-then-end-eq64 : goal.returns-then-end-eq64
returns-then-end-eq64 c =
    let s = c.args.self.now in
    let fits : s.filled + length c.args.bytes.now ≤ length s.held = omega arith in
    record {
      hash = λ m.
          held_whole s.held c.args.bytes.now _ s.filled fits c.copy_from_slice.ensures.after s.hash _ m
          s.sizes.1 c.if-end-eq64.true c.compress-self.ensures;
      filled = omega arith;
    }

pub returns-else-end-eq64 : goal.returns-else-end-eq64
returns-else-end-eq64 c =
    let s = c.args.self.now in
    let fits : s.filled + length c.args.bytes.now ≤ length s.held = omega arith in
    record {
      hash = λ m. held_part s.held c.args.bytes.now _ s.filled fits c.copy_from_slice.ensures.after s.hash m;
      filled = omega arith;
    }
