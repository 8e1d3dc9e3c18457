use Rattle.std.proofs.Common.{◌≡◌, ℕ, List, ◌++◌, take, drop, ap, ◌∙◌, arith}
use Rattle.std.specs.Hash.{le_bytes}
use Rattle.checkpoint_io.specs.Versions.{writer_len}
use Rattle.checkpoint_io.proofs.lemmas.VersionLaws.{few_len}
use Rattle.checkpoint_io.proofs.lemmas.BlockLaws.{take_low_first}
use Rattle.checkpoint_io.proofs.heads.put_writer.Goals as goal

pub returns-clause-put : goal.returns-clause-put
unfolding le_bytes
returns-clause-put c =
    let few = few_len c.args.version in
    let front : take c.writer_len.result c.to_le_bytes.result ≡ le_bytes (writer_len c.args.version) c.args.writer =
    (λ i. take (c.writer_len.ensures i) (c.to_le_bytes.ensures i)) ∙ take_low_first 0 (writer_len c.args.version) 4 c.args.writer (omega (arith, few)) in
    c.put.ensures.put ∙ ap (λ (b : List ℕ). take c.args.at c.args.into.now ++ b ++ drop c.put.result c.args.into.now) front
