use Rattle.std.proofs.Common.{ℕ, List, [], ◌≡◌, ◌∷◌, ◌++◌, length, drop, ap, arith, ◌∙◌}
use Rattle.std.specs.Hash.{le_bytes}
use Rattle.log_dictionary.proofs.lemmas.Putting.{then_put}
use Rattle.checkpoint_io.proofs.heads.put_clock.Goals as goal

pub returns-clause-put : goal.returns-clause-put
unfolding le_bytes
returns-clause-put c =
    let old = c.args.into.now in
    let tag : List ℕ = 3 ∷ [] in
    let tick = c.to_le_bytes.result in
    let nanos = c.to_le_bytes-2.result in
    let first = then_put old c.put-at.new.into c.put-at-2.new.into tag tick 0 c.put-at.result c.put-at-2.result (omega arith) (record { put = c.put-at.ensures.put; after_is = c.put-at.ensures.after }) (record { put = c.put-at-2.ensures.put; after_is = c.put-at-2.ensures.after }) in
    let second = then_put old c.put-at-2.new.into c.put-at-3.new.into (tag ++ tick) nanos 0 c.put-at-2.result c.put-at-3.result (omega arith) first (record { put = c.put-at-3.ensures.put; after_is = c.put-at-3.ensures.after }) in
    let whole = then_put old c.put-at-3.new.into c.put.new.into (tag ++ tick ++ nanos) c.to_le_bytes-3.result 0 c.put-at-3.result c.put.result (omega arith) second (record { put = c.put.ensures.put; after_is = c.put.ensures.after }) in
    let end : c.put.result ≡ 25 = omega (arith, c.put.ensures.after, second.after_is, ap length c.to_le_bytes.ensures, ap length c.to_le_bytes-2.ensures, ap length c.to_le_bytes-3.ensures) in
    whole.put ∙ (λ i. tag ++ c.to_le_bytes.ensures i ++ c.to_le_bytes-2.ensures i ++ c.to_le_bytes-3.ensures i ++ drop (end i) old)
