use Rattle.std.proofs.Common.{◌≡◌, map, fold, sym, ap, ◌∙◌, rules}
use Rattle.std.specs.Slice.Iter.{iter_rest}
use Rattle.std.proofs.lemmas.List.Folds.{fold-map}
use Rattle.sha256.specs.Block.{compressed}
use Rattle.sha256.proofs.Chains.{chained_blocks, absorbed}
use Rattle.sha256.proofs.state.Blocks.absorb.Goals as goal

pub returns : goal.returns
returns c =
    let s = c.args.self.now in
    let t = c.hold.new.self in
    let u = c.hold-2.new.self in
    let run = c.fold-self.ensures.runs in
    let blocks : map (λ b. b.now) run.0.items ≡ c.as_chunks.result.0.now =
    (c.iter.ensures.runs run.0 run.0.seen).4 run.2 ∙ ap iter_rest run.1 ∙ c.iter.ensures.rest in
    let made : c.fold-self.result ≡ fold compressed t.hash c.as_chunks.result.0.now =
    run.3 (λ h b. compressed h b.now) (λ h b r f call. search rules) ∙ sym (fold-map compressed (λ b. b.now) t.hash run.0.items) ∙ ap (fold compressed t.hash) blocks in
    let hash = made ∙ ap (fold compressed t.hash) c.as_chunks.ensures.front ∙ chained_blocks t.hash c.split_at.result.1.now in
    absorbed s t u c.args.bytes.now c.split_at.result.0.now c.split_at.result.1.now c.as_chunks.result.1.now c.fold-self.result c.min.result
    c.min.ensures c.split_at.ensures.front c.split_at.ensures.back c.as_chunks.ensures.back c.hold.ensures hash c.hold-2.ensures.hash c.hold-2.ensures.filled
