use Rattle.std.proofs.Common.{◌≡◌, [], sym, ◌∙◌, arith}
use Rattle.bytes_queue.proofs.Chunks.{none_in, in_none, equal_tells}
use Rattle.bytes_queue.proofs.queue.BytesQueue.is_empty.Goals as goal

pub returns : goal.returns
returns c =
    let chunks = c.self.inside.chunks in
    equal_tells c.is_empty.result chunks.len 0 (c.args.self.now ≡ []) c.is_empty.ensures
    (λ none. sym c.self.view_is ∙ in_none chunks.items (omega (arith, none, chunks.ok.0)))
    (λ none. omega (arith, none_in chunks.items c.self.invariant (c.self.view_is ∙ none), chunks.ok.0))
