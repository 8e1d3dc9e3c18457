use Rattle.std.proofs.Common.{map}
use Rattle.log_session.proofs.Logging.{knows_if_taken}
use Rattle.log_session.proofs.writer.Writer.takes.Goals as goal

pub returns-then-is_ready : goal.returns-then-is_ready
returns-then-is_ready g c =
    let same = knows_if_taken (g.S.StageIn.plan c.args.self.now.end) c.args.dictionary.now c.requires.0 c.args.id (map g.A.Argument.value c.args.args.now) c.requires.1 in
    let ready = c.is_ready.ensures.0 c.if-is_ready.true in
    (λ taken. (same.0 (c.takes.ensures.0 taken), ready.0, ready.1, ready.2), λ all. c.takes.ensures.1 (same.1 all.0))
