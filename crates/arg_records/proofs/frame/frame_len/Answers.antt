use Rattle.std.proofs.Common.{arith}
use Rattle.arg_records.proofs.Arguments.{words_from, FrameLen-bound}
use Rattle.arg_records.proofs.frame.frame_len.Goals as goal

pub overflow_add-len : goal.overflow_add-len
overflow_add-len g c = omega (arith, c.word_count-len.ensures, c.loop-arg.invariant, words_from g.A.Argument.value c.args.args.now c.loop-arg.arg-index _ _ c.loop-arg-test.true c.arg-item.is c.arg.ensures, FrameLen-bound _ c.requires)

pub loop-arg-preserved : goal.loop-arg-preserved
loop-arg-preserved g c = omega (arith, c.word_count-len.ensures, c.loop-arg.invariant, words_from g.A.Argument.value c.args.args.now c.loop-arg.arg-index _ _ c.loop-arg-test.true c.arg-item.is c.arg.ensures)
