use Rattle.nl_io.proofs.lemmas.Outcomes.{at_err}
use Rattle.command_base.proofs.lemmas.Printings.{flushed_whole, flushed_cut}
use Rattle.command_base.proofs.output.put_pieces.Goals as goal

pub returns-in_err-put_pieces-clause-cut_off : goal.returns-in_err-put_pieces-clause-cut_off
returns-in_err-put_pieces-clause-cut_off g c = at_err c.from_residual.result (rw c.make-text.ensures at c.in_err-put_pieces.ensures.cut_off)

pub returns-clause-ok : goal.returns-clause-ok
returns-clause-ok g c = flushed_whole c.flush.result _ _ _ _ _ (rw c.make-text.ensures at c.in_ok-put_pieces.ensures.ok) c.flush.ensures.ok

pub returns-clause-cut_off : goal.returns-clause-cut_off
returns-clause-cut_off g c = flushed_cut c.flush.result _ _ _ _ _ _ _ _ (rw c.make-text.ensures at c.in_ok-put_pieces.ensures.ok) c.in_ok-put_pieces.ensures.counted c.flush.ensures.cut_off
