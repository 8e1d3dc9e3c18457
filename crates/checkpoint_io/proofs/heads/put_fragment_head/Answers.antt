use Rattle.std.proofs.Common.{ℕ, List, [], ◌≡◌, ◌∷◌, ◌++◌, length, drop, ap, arith, ◌∙◌}
use Rattle.std.specs.Hash.{le_bytes}
use Rattle.log_dictionary.proofs.lemmas.Putting.{then_put}
use Rattle.checkpoint_io.proofs.heads.put_fragment_head.Goals as goal

pub returns-clause-put : goal.returns-clause-put
unfolding le_bytes
returns-clause-put c =
    let old = c.args.into.now in
    let front : List ℕ = 1 ∷ [] in
    let first = c.to_le_bytes.result in
    let head = then_put old c.put-at.new.into c.put-at-2.new.into front first 0 c.put-at.result c.put-at-2.result (omega arith) (record { put = c.put-at.ensures.put; after_is = c.put-at.ensures.after }) (record { put = c.put-at-2.ensures.put; after_is = c.put-at-2.ensures.after }) in
    let whole = then_put old c.put-at-2.new.into c.put.new.into (front ++ first) c.to_le_bytes-2.result 0 c.put-at-2.result c.put.result (omega arith) head (record { put = c.put.ensures.put; after_is = c.put.ensures.after }) in
    let end : c.put.result ≡ 7 = omega (arith, c.put.ensures.after, head.after_is, ap length c.to_le_bytes.ensures, ap length c.to_le_bytes-2.ensures) in
    whole.put ∙ (λ i. front ++ c.to_le_bytes.ensures i ++ c.to_le_bytes-2.ensures i ++ drop (end i) old)
