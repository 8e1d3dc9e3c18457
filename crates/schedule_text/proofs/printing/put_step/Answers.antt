use Rattle.std.proofs.Common.{ℕ, List, [], ◌++◌, sym, subst, append_assoc, ◌∙◌, refl}
use Rattle.nl_io.specs.TextWriters.{IsCutOff}
use Rattle.nl_io.proofs.lemmas.Outcomes.{at_err}
use Rattle.nl_io.proofs.lemmas.TextWriters.{carries_more, cut_before, cut_more}
use Rattle.std.proofs.lemmas.List.{append-nil}
use Rattle.schedule_text.specs.Printed.{event_text, positions_text}
use Rattle.schedule_text.specs.Judged.{event_of}
use Rattle.schedule_text.proofs.printing.put_step.Goals as goal

pub returns-in_err-put_event-clause-cut_off : goal.returns-in_err-put_event-clause-cut_off
returns-in_err-put_event-clause-cut_off g c =
    let event = event_text c.args.number (event_of (c.args.ring, c.args.step)) in
    let positions = positions_text c.args.view.now in
    at_err c.from_residual.result
    (subst (λ (text : List ℕ). IsCutOff text (g.O.Sink.put c.args.out.now) (g.O.Sink.put c.put_event.new.out) (g.O.Sink.faults c.args.out.now) (g.O.Sink.faults c.put_event.new.out)) (append_assoc c.args.writer.now event positions)
    (cut_before (c.args.writer.now ++ event) positions _ _ _ _ c.in_err-put_event.ensures.cut_off))

pub returns-in_err-put_positions-clause-cut_off : goal.returns-in_err-put_positions-clause-cut_off
returns-in_err-put_positions-clause-cut_off g c =
    let event = event_text c.args.number (event_of (c.args.ring, c.args.step)) in
    let positions = positions_text c.args.view.now in
    let whole = c.args.writer.now ++ (event ++ positions) in
    at_err c.from_residual-in_err-put_positions.result
    (cut_more whole (c.args.writer.now ++ event) positions [] _ _ _ _ _ _ _
    (sym (append-nil _ ∙ append_assoc c.args.writer.now event positions))
    c.in_ok-put_event.ensures.ok c.in_ok-put_event.ensures.counted c.in_err-put_positions.ensures.cut_off)

pub returns-clause-ok : goal.returns-clause-ok
returns-clause-ok g c =
    let event = event_text c.args.number (event_of (c.args.ring, c.args.step)) in
    let positions = positions_text c.args.view.now in
    carries_more _ (c.args.writer.now ++ event) positions _ _ _ _ _ (sym (append_assoc c.args.writer.now event positions)) c.in_ok-put_event.ensures.ok c.in_ok-put_positions.ensures.ok

pub returns-clause-others : goal.returns-clause-others
returns-clause-others g c = g.met.O.Sink.rest_then _ _ _ c.put_event.ensures.others c.put_positions.ensures.others
