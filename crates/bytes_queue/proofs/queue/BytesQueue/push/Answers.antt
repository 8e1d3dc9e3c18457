use Rattle.std.proofs.Common.{◌≡◌, ◌+◌, ◌-◌, ◌++◌, ◌∷◌, [], List, ℕ, length, refl, ap, ◌∙◌, arith}
use Rattle.std.proofs.Math.ListN.{set}
use Rattle.std.specs.List.{flat_map}
use Rattle.std.proofs.lemmas.Result.{on_ok_weaker}
use Rattle.bytes_queue.proofs.Chunks.{last_more}
use Rattle.bytes_queue.proofs.queue.BytesQueue.push.Goals as goal

pub returns-clause-ok : goal.returns-clause-ok
returns-clause-ok c =
    let chunks = c.self.inside.chunks in
    let place = chunks.len - 1 in
    let end : place + 1 ≡ length chunks.items = omega (arith, c.in-Some.ensures.variant.0 refl, chunks.ok.0) in
    on_ok_weaker c.push.result
    (λ more.
    ap (λ (last : List (List ℕ)). flat_map (λ chunk. chunk) (set chunks.items place last)) more
    ∙ last_more chunks.items place c.in-Some.last.now c.args.bytes.now end c.in-Some.ensures.value
    ∙ ap (λ (l : List (List ℕ)). l ++ c.args.bytes.now ∷ []) c.self.view_is)
    c.push.ensures.ok
