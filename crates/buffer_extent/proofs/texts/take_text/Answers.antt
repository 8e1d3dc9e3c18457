use Rattle.std.proofs.Common.{refl, arith}
use Rattle.buffer_extent.proofs.Arguments.{text_broken, text_found}
use Rattle.buffer_extent.proofs.texts.take_text.Goals as goal

pub returns-then-not-takes : goal.returns-then-not-takes
returns-then-not-takes c =
    text_broken c.args.len c.args.bytes.now c.split_at.result.0.now c.requires (omega arith) c.split_at.ensures.front
    (λ is. let taken = c.if-not-takes.ensures.1 is in absurd cc)

pub returns : goal.returns
returns c =
    text_found c.args.len c.args.bytes.now c.split_at.result.0.now c.split_at.result.1.now (omega arith) c.split_at.ensures.front c.split_at.ensures.back
    (c.if-not-takes.ensures.0 refl)
