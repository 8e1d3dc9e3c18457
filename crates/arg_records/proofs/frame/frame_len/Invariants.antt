use Rattle.std.proofs.Common.{◌≡◌, ◌+◌, drop, map}
use Rattle.std.specs.Prelude.{sum_by}
use Rattle.arg_records.specs.Frames.{argument_words, FrameLen}
use Rattle.arg_records.proofs.frame.frame_len.Given as goal

abbrev pub invariant-loop-arg : goal.invariant-loop-arg
invariant-loop-arg g l =
    l.len + sum_by argument_words (map g.A.Argument.value (drop l.arg-index l.args)) ≡ FrameLen (map g.A.Argument.value l.args)
