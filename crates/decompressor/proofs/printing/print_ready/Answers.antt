use Rattle.std.proofs.Common.{ℕ, ◌≤◌, [], List, refl, sym, subst, ◌∙◌, arith, rules}
use Rattle.std.specs.Prelude.{slice_set}
use Rattle.nl_io.proofs.lemmas.TextWriters.{carries_held}
use Rattle.log_dictionary.specs.declared.clock.Clock.{Clock}
use Rattle.log_dictionary.specs.Clocks.{first_tick}
use Rattle.direct_printf.specs.Lines.{AreFirstOrigins}
use Rattle.decompressor.specs.Waiting.{list_of}
use Rattle.decompressor.specs.Decompressors.{HasMore}
use Rattle.decompressor.proofs.LinesOut.{begin_lines, within, holds, said, line_said, next_lines, line_cut, few_next, wished, lacked, held_cut, all_out, turn}
use Rattle.decompressor.proofs.printing.print_ready.Goals as goal

pub loop-writer-init : goal.loop-writer-init
loop-writer-init g c = record {
  lines_so_far = λ first all ready. begin_lines ready (carries_held [] c.args.text_writer.now (g.K.Sink.put c.args.out.now) c.requires.held);
  origins = search rules;
  first = search rules;
  counted = refl;
  others = g.met.K.Sink.rest_same _;
}

pub bounds-waiting-writer : goal.bounds-waiting-writer
bounds-waiting-writer g c =
    let (first, all, ready) = c.requires.ready in
    within ready (c.loop-writer.invariant.lines_so_far first all ready) ((c.in-Take.ensures.take c.in-Take.writer).0 refl)

pub make_line-requires-clause-first : goal.make_line-requires-clause-first
make_line-requires-clause-first g c =
    let (first, all, ready) = c.requires.ready in
    let so_far = c.loop-writer.invariant.lines_so_far first all ready in
    let top = (c.in-Take.ensures.take c.in-Take.writer).0 refl in
    (_, _, holds ready so_far top c.index-waiting-writer.result, subst (λ (clocks : List Clock). first_tick clocks ≤ (turn ready so_far top).logged.stamp) (sym ready.clocks) (said ready so_far top).not_before)

pub returns-in_err-extend-clause-printed : goal.returns-in_err-extend-clause-printed
returns-in_err-extend-clause-printed g c first all ready =
    let none = begin_lines ready (carries_held [] c.args.text_writer.now (g.K.Sink.put c.args.out.now) c.requires.held) in
    lacked ready none _ _ c.from_residual.result _ _ c.from_residual.ensures.1 refl

pub returns-in_err-left-clause-printed : goal.returns-in_err-left-clause-printed
returns-in_err-left-clause-printed g c first all ready =
    let so_far = c.loop-writer.invariant.lines_so_far first all ready in
    lacked ready so_far _ _ c.from_residual-in_err-left.result _ _ c.from_residual-in_err-left.ensures.1 c.loop-writer.invariant.counted

pub returns-in_err-put-clause-printed : goal.returns-in_err-put-clause-printed
returns-in_err-put-clause-printed g c first all ready =
    let so_far = c.loop-writer.invariant.lines_so_far first all ready in
    let top = (c.in-Take.ensures.take c.in-Take.writer).0 refl in
    let line = c.as_slice-in-Take.ensures.value ∙ line_said ready so_far top (c.in_ok-left.ensures.line _ _ (holds ready so_far top c.index-waiting-writer.result)) in
    line_cut ready so_far top line _ _ _ _ c.from_residual-in_err-put.result _ _ c.from_residual-in_err-put.ensures.1 c.loop-writer.invariant.counted c.in_err-put.ensures.cut_off

pub show_first-requires : goal.show_first-requires
show_first-requires g c =
    let (first, all, ready) = c.requires.ready in
    let top = (c.in-Take.ensures.take c.in-Take.writer).0 refl in
    wished ready (c.loop-writer.invariant.lines_so_far first all ready) top (c.next.ensures.taken c.in-Take.writer c.in-Take.is)

pub overflow_add-lines : goal.overflow_add-lines
overflow_add-lines g c =
    let (first, all, ready) = c.requires.ready in
    omega (arith, few_next ready (c.loop-writer.invariant.lines_so_far first all ready) ((c.in-Take.ensures.take c.in-Take.writer).0 refl))

pub remove_first-requires : goal.remove_first-requires
remove_first-requires g c =
    let (first, all, ready) = c.requires.ready in
    let so_far = c.loop-writer.invariant.lines_so_far first all ready in
    let top = (c.in-Take.ensures.take c.in-Take.writer).0 refl in
    let there = holds ready so_far top c.index-waiting-writer.result in
    rw (c.dictionary-in-Take.ensures, c.header.ensures) (_, _, there, c.in_ok-left.ensures.left _ _ there)

pub loop-writer-smaller : goal.loop-writer-smaller
loop-writer-smaller g c =
    let (first, all, ready) = c.requires.ready in
    omega (arith, few_next ready (c.loop-writer.invariant.lines_so_far first all ready) ((c.in-Take.ensures.take c.in-Take.writer).0 refl))

pub loop-writer-preserved : goal.loop-writer-preserved
loop-writer-preserved g c = record {
  lines_so_far = λ first all ready.
      let so_far = c.loop-writer.invariant.lines_so_far first all ready in
      let top = (c.in-Take.ensures.take c.in-Take.writer).0 refl in
      let t = turn ready so_far top in
      let done = c.is_done.ensures ∙ ready.closed c.in-Take.writer t.known in
      let there = holds ready so_far top c.index-waiting-writer.result in
      let line = c.as_slice-in-Take.ensures.value ∙ line_said ready so_far top (c.in_ok-left.ensures.line _ _ there) in
      let rest = (rw (c.dictionary-in-Take.ensures, c.header.ensures) at c.remove_first.ensures) _ _ there (c.in_ok-left.ensures.left _ _ there) in
      next_lines ready so_far top line c.remove_first.new.self c.in_ok-put.ensures.ok rest
      (c.show_first.ensures _ _ _ rest ∙ λ i. slice_set (c.next.ensures.taken c.in-Take.writer c.in-Take.is i) c.in-Take.writer (list_of (done i) t.records));
  origins = c.make_line.ensures.kept ∙ c.loop-writer.invariant.origins;
  first = subst (λ (texts : List (List ℕ)). AreFirstOrigins texts c.args.reader.now.messages) (sym c.make_line.ensures.kept) c.loop-writer.invariant.first;
  counted = c.in_ok-put.ensures.counted ∙ c.loop-writer.invariant.counted;
  others = g.met.K.Sink.rest_then _ _ _ c.loop-writer.invariant.others c.put.ensures.others;
}

pub returns-in_err-flush-clause-printed : goal.returns-in_err-flush-clause-printed
returns-in_err-flush-clause-printed g c first all ready =
    let so_far = c.loop-writer.invariant.lines_so_far first all ready in
    held_cut ready so_far _ _ _ _ c.from_residual-in_err-flush.result _ _ c.from_residual-in_err-flush.ensures.1 c.loop-writer.invariant.counted c.in_err-flush.ensures.cut_off

pub returns-clause-printed : goal.returns-clause-printed
returns-clause-printed g c first all ready =
    let l = c.loop-writer in
    let so_far = l.invariant.lines_so_far first all ready in (
      subst (HasMore c.args.ended c.args.reader.now first all l.lines (g.K.Sink.put c.args.out.now) (g.K.Sink.put c.flush.new.sink) l.waiting) (sym (c.next.ensures.kept c.in_default.not-Take))
          (all_out ready so_far c.next.result c.in_default.not-Take (λ w is. (c.next.ensures.want w).0 is) c.next.ensures.done.0 c.in_ok-flush.ensures.ok),
      c.in_ok-flush.ensures.counted ∙ l.invariant.counted,
    )

pub returns-in_err-left-clause-origins : goal.returns-in_err-left-clause-origins
returns-in_err-left-clause-origins g c = subst (λ (texts : List (List ℕ)). AreFirstOrigins texts c.args.reader.now.messages) (sym c.make_line.ensures.kept) c.loop-writer.invariant.first

pub returns-in_err-put-clause-origins : goal.returns-in_err-put-clause-origins
returns-in_err-put-clause-origins g c = subst (λ (texts : List (List ℕ)). AreFirstOrigins texts c.args.reader.now.messages) (sym c.make_line.ensures.kept) c.loop-writer.invariant.first
