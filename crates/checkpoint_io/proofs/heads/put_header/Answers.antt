use Rattle.std.proofs.Common.{ℕ, List, [], ◌≡◌, ◌∷◌, ◌++◌, length, drop, ap, arith, ◌∙◌}
use Rattle.std.specs.Prelude.{codes}
use Rattle.std.specs.Hash.{le_bytes}
use Rattle.log_dictionary.proofs.lemmas.Putting.{Stand, then_put}
use Rattle.checkpoint_io.specs.Versions.{writer_len, header_len}
use Rattle.checkpoint_io.specs.Blocks.{writer_bytes}
use Rattle.checkpoint_io.proofs.lemmas.BlockLaws.{le_length}
use Rattle.checkpoint_io.proofs.heads.put_header.Goals as goal

pub returns-clause-put : goal.returns-clause-put
unfolding le_bytes
returns-clause-put c =
    let header = c.args.header.now in
    let old = c.args.into.now in
    let version : List ℕ = header.version ∷ [] in
    let start : List ℕ = codes "NLOG" ++ version in
    let writers : List ℕ = writer_bytes header.version header.writers in
    let tick = c.to_le_bytes.result in
    let nanos = c.to_le_bytes-2.result in
    let long = le_length (writer_len header.version) header.writers in
    let count : Stand c.put-at-2.new.into c.put-at-2.result writers c.put_writer-at.result c.put_writer-at.new.into = record { put = c.put_writer-at.ensures.put; after_is = omega (arith, c.put_writer-at.ensures.after, long) } in
    let first = then_put old c.put-at.new.into c.put-at-2.new.into (codes "NLOG") version 0 c.put-at.result c.put-at-2.result (omega arith) (record { put = c.put-at.ensures.put; after_is = c.put-at.ensures.after }) (record { put = c.put-at-2.ensures.put; after_is = c.put-at-2.ensures.after }) in
    let second = then_put old c.put-at-2.new.into c.put_writer-at.new.into start writers 0 c.put-at-2.result c.put_writer-at.result (omega arith) first count in
    let third = then_put old c.put_writer-at.new.into c.put-at-3.new.into (start ++ writers) tick 0 c.put_writer-at.result c.put-at-3.result (omega arith) second (record { put = c.put-at-3.ensures.put; after_is = c.put-at-3.ensures.after }) in
    let fourth = then_put old c.put-at-3.new.into c.put-at-4.new.into (start ++ writers ++ tick) nanos 0 c.put-at-3.result c.put-at-4.result (omega arith) third (record { put = c.put-at-4.ensures.put; after_is = c.put-at-4.ensures.after }) in
    let whole = then_put old c.put-at-4.new.into c.put.new.into (start ++ writers ++ tick ++ nanos) c.to_le_bytes-3.result 0 c.put-at-4.result c.put.result (omega arith) fourth (record { put = c.put.ensures.put; after_is = c.put.ensures.after }) in
    let end : c.put.result ≡ header_len header.version = omega (arith, c.put.ensures.after, c.put-at-4.ensures.after, c.put-at-3.ensures.after, c.put_writer-at.ensures.after, first.after_is, ap length c.to_le_bytes.ensures, ap length c.to_le_bytes-2.ensures, ap length c.to_le_bytes-3.ensures) in
    whole.put ∙ (λ i. start ++ writers ++ c.to_le_bytes.ensures i ++ c.to_le_bytes-2.ensures i ++ c.to_le_bytes-3.ensures i ++ drop (end i) old)
