use Rattle.std.proofs.Common.{ℕ, ◌<◌}
use Rattle.std.proofs.lemmas.List.Elements.{All-from_get_or}
use Rattle.buffer_extent.proofs.RecordForms.{start_stands}
use Rattle.buffer_extent.proofs.judge.judge_record.Goals as goal

pub skip_texts-requires-clause-fit : goal.skip_texts-requires-clause-fit
skip_texts-requires-clause-fit c =
    start_stands c.args.dictionary.now c.args.before c.args.least c.args.bytes.now _ c.in_ok-head.head c.take_start.new.numbers c.message.result.now c.types-types.result.now
    (All-from_get_or (λ (b : ℕ). b < 256) c.args.bytes.now 0 (λ i _. (c.type_inv.bytes i).fits)) c.in_ok-head.ensures c.message.ensures c.types-types.ensures.types
