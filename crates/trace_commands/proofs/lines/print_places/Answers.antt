use Rattle.std.proofs.Common.{[], ◌++◌, List, ℕ, refl, sym, ap, subst, ◌∙◌}
use Rattle.std.proofs.lemmas.List.{append-nil}
use Rattle.direct_printf.specs.Lines.{Line}
use Rattle.nl_io.specs.TextWriters.{Carries, IsCutOff}
use Rattle.nl_io.proofs.lemmas.TextWriters.{carries_held, carries_more, carries_all, carries_front, cut_held, cut_more}
use Rattle.command_base.specs.Endings.{Ending}
use Rattle.command_base.specs.Printing.{Prints}
use Rattle.command_base.proofs.lemmas.EffectLaws.{ended_as}
use Rattle.trace_commands.specs.Texts.{direct_text}
use Rattle.trace_commands.proofs.CallLines.{other_lines, call_at_place, line_more, lines_cut, lines_cut_behind, all_lines}
use Rattle.trace_commands.proofs.lines.print_places.Goals as goal

pub loop-place-init : goal.loop-place-init
loop-place-init g c = record {
  carries = carries_held [] _ _ c.make-writer.ensures;
  counted = refl;
  others = g.met.O.Sink.rest_same _;
}

pub append_call-requires-clause-there : goal.append_call-requires-clause-there
append_call-requires-clause-there g c =
    let at = call_at_place c.args.run.now c.args.places.now c.loop-place.place-index (record { stamp = 0; writer = 0; ordinal = 0 }) c.requires.places c.loop-place-test.true in
    (at.call, at.there, at.place_is)

pub returns-in_err-append_call-clause-printed : goal.returns-in_err-append_call-clause-printed
returns-in_err-append_call-clause-printed g c =
    let was = c.loop-place.invariant in
    subst (λ (ending : Ending). Prints (direct_text c.args.run.now) (g.O.Sink.put c.args.out.now) (g.O.Sink.put c.loop-place.out) (g.O.Sink.faults c.args.out.now) (g.O.Sink.faults c.loop-place.out) ending)
    (sym (ended_as _ _ c.from_residual.ensures.1))
    (carries_front _ _ (other_lines c.args.run.now c.loop-place.place-index) _ _ _ (lines_cut c.args.run.now c.loop-place.place-index) was.carries, was.counted)

pub returns-in-Err-clause-printed : goal.returns-in-Err-clause-printed
returns-in-Err-clause-printed g c =
    let was = c.loop-place.invariant in
    let at = call_at_place c.args.run.now c.args.places.now c.loop-place.place-index (record { stamp = 0; writer = 0; ordinal = 0 }) c.requires.places c.loop-place-test.true in
    let line = c.deref.ensures.value ∙ c.in_ok-append_call.ensures at.call at.there at.place_is ∙ ap (λ (text : List ℕ). text ++ Line c.args.run.now.clocks at.call) c.clear.ensures.items in
    let cut = cut_more _ _ (Line c.args.run.now.clocks at.call) _ _ _ _ _ _ _ _ (lines_cut_behind c.args.run.now c.loop-place.place-index _ at) was.carries was.counted
    (subst (λ (text : List ℕ). IsCutOff (c.loop-place.writer ++ text) (g.O.Sink.put c.loop-place.out) (g.O.Sink.put c.put.new.sink) (g.O.Sink.faults c.loop-place.out) (g.O.Sink.faults c.put.new.sink)) line c.in-Err.ensures.cut_off) in
    (refl, cut.some, cut.put, cut.rose)

pub loop-place-preserved : goal.loop-place-preserved
loop-place-preserved g c =
    let was = c.loop-place.invariant in
    let at = call_at_place c.args.run.now c.args.places.now c.loop-place.place-index (record { stamp = 0; writer = 0; ordinal = 0 }) c.requires.places c.loop-place-test.true in
    let line = c.deref.ensures.value ∙ c.in_ok-append_call.ensures at.call at.there at.place_is ∙ ap (λ (text : List ℕ). text ++ Line c.args.run.now.clocks at.call) c.clear.ensures.items in
    record {
      carries = carries_more _ _ (Line c.args.run.now.clocks at.call) _ _ _ _ _ (line_more c.args.run.now c.loop-place.place-index _ at) was.carries
          (subst (λ (text : List ℕ). Carries (c.loop-place.writer ++ text) (g.O.Sink.put c.loop-place.out) (g.O.Sink.put c.put.new.sink) c.put.new.self) line c.in-Ok.ensures.ok);
      counted = c.in-Ok.ensures.counted ∙ was.counted;
      others = g.met.O.Sink.rest_then _ _ _ was.others c.put.ensures.others;
    }

pub returns-in-Ok-flush-clause-printed : goal.returns-in-Ok-flush-clause-printed
returns-in-Ok-flush-clause-printed g c =
    let was = c.loop-place.invariant in
    let all = all_lines c.args.run.now c.args.places.now c.loop-place.place-index c.requires.places c.loop-place-test.false in
    (carries_all _ _ _ _ _ (rw all at was.carries) c.in-Ok-flush.ensures.ok, c.in-Ok-flush.ensures.counted ∙ was.counted)

pub returns-clause-printed : goal.returns-clause-printed
returns-clause-printed g c =
    let was = c.loop-place.invariant in
    let all = all_lines c.args.run.now c.args.places.now c.loop-place.place-index c.requires.places c.loop-place-test.false in
    let cut = cut_held (direct_text c.args.run.now) (direct_text c.args.run.now) [] _ _ _ _ _ _ _ (sym (append-nil (direct_text c.args.run.now))) (rw all at was.carries) was.counted c.in-Err-flush.ensures.cut_off in
    (refl, cut.some, cut.put, cut.rose)
