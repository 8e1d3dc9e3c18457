use Rattle.std.proofs.Common.{ℕ, List, [], ◌≡◌, ◌∷◌, ◌++◌, length, drop, ap, arith, ◌∙◌}
use Rattle.std.specs.Hash.{le_bytes}
use Rattle.log_dictionary.proofs.lemmas.Putting.{Stand, then_put}
use Rattle.checkpoint_io.specs.Versions.{writer_len, extent_head_len}
use Rattle.checkpoint_io.specs.Blocks.{writer_bytes}
use Rattle.checkpoint_io.proofs.lemmas.BlockLaws.{le_length}
use Rattle.checkpoint_io.proofs.heads.put_extent_head.Goals as goal

pub returns-clause-put : goal.returns-clause-put
unfolding le_bytes
returns-clause-put c =
    let old = c.args.into.now in
    let front : List ℕ = 2 ∷ [] in
    let writer : List ℕ = writer_bytes c.args.version c.args.writer in
    let long = le_length (writer_len c.args.version) c.args.writer in
    let name : Stand c.put-at.new.into c.put-at.result writer c.put_writer-at.result c.put_writer-at.new.into = record { put = c.put_writer-at.ensures.put; after_is = omega (arith, c.put_writer-at.ensures.after, long) } in
    let head = then_put old c.put-at.new.into c.put_writer-at.new.into front writer 0 c.put-at.result c.put_writer-at.result (omega arith) (record { put = c.put-at.ensures.put; after_is = c.put-at.ensures.after }) name in
    let whole = then_put old c.put_writer-at.new.into c.put.new.into (front ++ writer) c.to_le_bytes.result 0 c.put_writer-at.result c.put.result (omega arith) head (record { put = c.put.ensures.put; after_is = c.put.ensures.after }) in
    let end : c.put.result ≡ extent_head_len c.args.version = omega (arith, c.put.ensures.after, c.put_writer-at.ensures.after, c.put-at.ensures.after, ap length c.to_le_bytes.ensures) in
    whole.put ∙ (λ i. front ++ writer ++ c.to_le_bytes.ensures i ++ drop (end i) old)
