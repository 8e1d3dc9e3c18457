use Rattle.std.proofs.Common.{◌<◌, List, ℕ, length, slice_get, refl, ap, ◌∙◌, arith}
use Rattle.std.proofs.lemmas.Option.{IfSome_then}
use Rattle.bytes_queue.proofs.Chunks.{front_parts, first_is}
use Rattle.bytes_queue.proofs.queue.BytesQueue.first.Goals as goal

pub returns-clause-some : goal.returns-clause-some
returns-clause-some c =
    let chunks = c.self.inside.chunks in
    let first = c.in_ok-front.field-0.now in
    let some : 0 < length chunks.items = omega (arith, c.in_ok-front.ensures.variant.0 refl, chunks.ok.0) in
    let parts = front_parts chunks.items first c.args.self.now some c.in_ok-front.ensures.lookup c.self.invariant c.self.view_is in
    IfSome_then c.first.result c.first.ensures.some (λ x there. ap (λ (l : List (List ℕ)). slice_get l 0) parts.1 ∙ first_is first parts.0 x.now there)

pub returns-clause-none : goal.returns-clause-none
returns-clause-none c =
    let chunks = c.self.inside.chunks in
    let first = c.in_ok-front.field-0.now in
    let some : 0 < length chunks.items = omega (arith, c.in_ok-front.ensures.variant.0 refl, chunks.ok.0) in
    let parts = front_parts chunks.items first c.args.self.now some c.in_ok-front.ensures.lookup c.self.invariant c.self.view_is in
    ((λ none. absurd (parts.2 (c.first.ensures.none.0 none))), (λ none. absurd (parts.3 none)))
