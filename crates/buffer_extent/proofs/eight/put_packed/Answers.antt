use Rattle.std.proofs.Common.{List, ℕ, take, ap, ◌∙◌}
use Rattle.std.specs.Int.{w64, to_le_bytes}
use Rattle.arg_records.specs.Places.{with_words}
use Rattle.buffer_extent.proofs.eight.put_packed.Goals as goal

pub returns-clause-written : goal.returns-clause-written
returns-clause-written c =
    c.put_front.ensures.written ∙ ap (λ (b : List ℕ). with_words c.args.body.now c.args.at (take c.args.number.now.len b)) (ap (to_le_bytes w64) c.from_le_bytes.ensures ∙ c.requires.whole.eight)
