use Rattle.std.proofs.Common.{◌≡◌, [], refl, sym, ◌∙◌, arith}
use Rattle.bytes_queue.proofs.Strings.{none_left, left_none}
use Rattle.bytes_queue.proofs.Chunks.{equal_tells}
use Rattle.bytes_queue.proofs.chunk.Chunk.is_empty.Goals as goal

pub returns : goal.returns
returns c =
    let self = c.self.inside in
    equal_tells _ self.next c.len.result (c.args.self.now ≡ []) refl
    (λ same. sym c.self.view_is ∙ left_none self.next self.lens.items _ (omega (arith, same, c.len.ensures, self.lens.ok.0)))
    (λ none. omega (arith, none_left self.next self.lens.items _ c.self.invariant.0 (c.self.view_is ∙ none), c.len.ensures, self.lens.ok.0))
