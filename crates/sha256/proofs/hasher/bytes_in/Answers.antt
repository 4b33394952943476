use Rattle.std.proofs.Common.{rules, ◌≡◌, ◌/◌, ◌%◌, length, get_or, ◌∙◌, arith}
use Rattle.sha256.specs.Hash.{word_bytes}
use Rattle.sha256.proofs.Made.{made_is}
use Rattle.sha256.proofs.BigEndian.{bytes_made}
use Rattle.sha256.proofs.hasher.bytes_in.Goals as goal

pub returns : goal.returns
returns c =
    let l : length c.args.hash ≡ 8 = omega (arith, c.well_formed) in
    made_is _ _ (λ i. get_or (word_bytes (get_or c.args.hash (i / 4) 0)) (i % 4) 0) c.from_fn.result 32 (λ i y q lt call. search rules) c.from_fn.ensures.items
    ∙ bytes_made c.args.hash l
