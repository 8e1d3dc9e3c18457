use Rattle.std.proofs.Common.{map, arith}
use Rattle.log_ends.specs.Arguments.{argument_given}
use Rattle.log_ends.proofs.Logging.{too_early, worn_out}
use Rattle.log_ends.proofs.writer.WriterEnd.refuse.Goals as goal

pub returns-then-stamp-last_stamp : goal.returns-then-stamp-last_stamp
returns-then-stamp-last_stamp c =
    too_early c.args.self.now c.args.stamp c.args.id (map argument_given c.args.args.now) c.requires.unfinished (c.takes.ensures.0 c.if-not-takes.false) (omega (arith, c.last_stamp.ensures))

pub returns : goal.returns
returns c =
    worn_out c.args.self.now c.args.stamp c.args.id (map argument_given c.args.args.now) c.requires.unfinished (c.takes.ensures.0 c.if-not-takes.false)
    (omega (arith, c.last_stamp.ensures)) (c.requires.refused (omega (arith, c.last_stamp.ensures)))
