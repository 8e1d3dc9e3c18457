use Rattle.std.proofs.Common.{rules}
use Rattle.trace_generator.proofs.generator.Generator.draw_arguments.Goals as goal
use Rattle.trace_generator.proofs.generator.Generator.draw_arguments.Goals.{in-0+in_ok-push-in-0+in_ok-push-in-0-2, in-1+in_ok-from_slice-in-1+in_ok-push-in-1+in_ok-push-in-1-2, in-2+in_ok-push-in-2+in_ok-push-in-2-2, in_default+in_ok-push-in_default}

pub returns-clause-drawn : goal.returns-clause-drawn
returns-clause-drawn c = elim c.match-id.branch [
  | in-0+in_ok-push-in-0+in_ok-push-in-0-2 w ↦ search rules
  | in-1+in_ok-from_slice-in-1+in_ok-push-in-1+in_ok-push-in-1-2 w ↦ search rules
  | in-2+in_ok-push-in-2+in_ok-push-in-2-2 w ↦ search rules
  | in_default+in_ok-push-in_default w ↦ search rules
]
