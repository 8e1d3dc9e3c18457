use Rattle.std.proofs.Common.{inr}
use Rattle.nl_io.proofs.lemmas.DeskLaws.{Creates-made, SameButHeld-made, written, written-holds}
use Rattle.nl_io.proofs.lemmas.Outcomes.{at_ok, at_err}
use Rattle.nl_io.proofs.lemmas.Contents.{front-whole}
use Rattle.command_base.proofs.lemmas.HeldLaws.{holds_written, front_written}
use Rattle.command_base.proofs.saving.save.Goals as goal

pub write_created-written-requires : goal.write_created-written-requires
write_created-written-requires g c = Creates-made _ _ _ _ c.in_ok-id.ensures.created

pub finish-finished-requires : goal.finish-finished-requires
finish-finished-requires g c = SameButHeld-made _ _ _ (Creates-made _ _ _ _ c.in_ok-id.ensures.created) c.write_created-written.ensures.same

pub returns-in_err-written-clause-only : goal.returns-in_err-written-clause-only
returns-in_err-written-clause-only g c = written _ _ _ _ _ _ c.in_ok-id.ensures.created c.write_created-written.ensures.same c.write_created-written.ensures.count c.finish-finished.ensures.finished

pub returns-clause-only : goal.returns-clause-only
returns-clause-only g c = written _ _ _ _ _ _ c.in_ok-id.ensures.created c.write_created-written.ensures.same c.write_created-written.ensures.count c.finish-finished.ensures.finished

pub returns-in_err-written-clause-front : goal.returns-in_err-written-clause-front
returns-in_err-written-clause-front g c = at_err c.from_residual-in_err-written.result
    (inr (front_written _ _ _ _ _ _ _ c.in_ok-id.ensures.created c.write_created-written.ensures.same c.write_created-written.ensures.count c.in_err-written.ensures.front c.finish-finished.ensures.finished))

pub returns-clause-ok : goal.returns-clause-ok
returns-clause-ok g c = at_ok c.finish-finished.result
    (holds_written _ _ _ _ (written _ _ _ _ _ _ c.in_ok-id.ensures.created c.write_created-written.ensures.same c.write_created-written.ensures.count c.finish-finished.ensures.finished).told
    (written-holds _ _ _ _ _ _ _ c.in_ok-id.ensures.created c.write_created-written.ensures.same c.in_ok-written.ensures.ok c.finish-finished.ensures.finished))

pub returns-clause-front : goal.returns-clause-front
returns-clause-front g c = at_err c.finish-finished.result
    (inr (front_written _ _ _ _ _ _ _ c.in_ok-id.ensures.created c.write_created-written.ensures.same c.write_created-written.ensures.count (front-whole _ _ _ c.in_ok-written.ensures.ok) c.finish-finished.ensures.finished))
