use Rattle.std.proofs.Common.{rules, ◌/◌, [], map, get_or, ap, ◌∙◌}
use Rattle.std.specs.List.{range_with_len}
use Rattle.std.specs.Simd.{first_chunks}
use Rattle.sha256.proofs.Made.{made_is}
use Rattle.sha256.proofs.BigEndian.{word, words_made}
use Rattle.sha256.proofs.schedule.words_of.Goals as goal

pub returns : goal.returns
returns c =
    made_is _ _ (λ i. word (get_or c.as_chunks.result.0.now i [])) c.from_fn.result 16 (λ i y q lt call. search rules) c.from_fn.ensures.items
    ∙ ap (λ l. map (λ i. word (get_or l i [])) (range_with_len 0 16)) (c.as_chunks.ensures.front ∙ ap (λ n. first_chunks 4 (n / 4) c.args.block.now) c.told-block)
    ∙ words_made c.args.block.now c.told-block
