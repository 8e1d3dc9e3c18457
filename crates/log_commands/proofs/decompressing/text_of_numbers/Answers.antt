use Rattle.std.proofs.Common.{[], ◌∷◌, ◌++◌}
use Rattle.log_commands.proofs.Texts.{seen_more, numbers_more}
use Rattle.log_commands.proofs.decompressing.text_of_numbers.Goals as goal

pub loop-number-preserved : goal.loop-number-preserved
loop-number-preserved c = (
  c.loop-number.invariant.0 ++ c.in-Some.number.now ∷ [],
  seen_more _ _ _ _ _ c.loop-number.invariant.1 c.in-Some.ensures.steps,
  numbers_more c.loop-number.invariant.0 c.in-Some.number.now _ _ _ _ c.loop-number.invariant.2 c.in_ok-push_str.ensures.bytes c.format.ensures.text c.in_ok-push_str-2.ensures.bytes,
)
