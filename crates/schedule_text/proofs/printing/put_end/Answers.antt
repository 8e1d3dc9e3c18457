use Rattle.std.proofs.Common.{[], sym, ◌∙◌}
use Rattle.std.proofs.lemmas.List.{append-nil}
use Rattle.nl_io.proofs.lemmas.Outcomes.{at_err}
use Rattle.nl_io.proofs.lemmas.TextWriters.{carries_all, cut_held}
use Rattle.schedule_text.proofs.printing.put_end.Goals as goal

pub returns-in_err-put_rings-clause-cut_off : goal.returns-in_err-put_rings-clause-cut_off
returns-in_err-put_rings-clause-cut_off g c = at_err c.from_residual.result c.in_err-put_rings.ensures.cut_off

pub returns-in_err-flush-clause-cut_off : goal.returns-in_err-flush-clause-cut_off
returns-in_err-flush-clause-cut_off g c =
    at_err c.from_residual-in_err-flush.result
    (cut_held _ _ [] _ _ _ _ _ _ _ (sym (append-nil _)) c.in_ok-put_rings.ensures.ok c.in_ok-put_rings.ensures.counted c.in_err-flush.ensures.cut_off)

pub returns-clause-ok : goal.returns-clause-ok
returns-clause-ok g c = carries_all _ _ _ _ _ c.in_ok-put_rings.ensures.ok c.in_ok-flush.ensures.ok

pub returns-clause-others : goal.returns-clause-others
returns-clause-others g c = g.met.O.Sink.rest_then _ _ _ c.put_rings.ensures.others c.flush.ensures.others
