use Rattle.std.proofs.Common.{map, arith}
use Rattle.arg_records.proofs.Arguments.{frame_written}
use Rattle.arg_records.proofs.frame.frame_words.Goals as goal

pub returns-clause-ok : goal.returns-clause-ok
returns-clause-ok g c = frame_written c.args.into.now c.put_arguments.new.into c.args.id c.args.stamp c.from.result c.frame_len-len.result c.put_arguments.result (map g.A.Argument.value c.args.args.now) (omega arith) c.from.ensures c.frame_len-len.ensures c.put_arguments.ensures.end c.put_arguments.ensures.written
