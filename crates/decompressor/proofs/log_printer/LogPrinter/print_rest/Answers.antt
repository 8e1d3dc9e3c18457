use Rattle.std.proofs.Common.{◌≡◌, ◌+◌, true, Ok, List, length, ap, sym, subst, arith}
use Rattle.std.specs.Vec.{with_items}
use Rattle.std.proofs.lemmas.List.{with_items_is}
use Rattle.checkpoint_io.specs.Blocks.{Block}
use Rattle.decompressor.specs.contracts.log_printer.LogPrinter.{the_view}
use Rattle.decompressor.specs.Settling.{closed_by}
use Rattle.decompressor.specs.Waiting.{QueueState, AreShown}
use Rattle.decompressor.specs.Decompressors.{PrinterState, HasToPrint, HasLast, HasRest, PrintsRest}
use Rattle.decompressor.proofs.Blocks.{few_wait, all_ready_now}
use Rattle.decompressor.proofs.Parts.{lines_fit, prints_on, prints_cut}
use Rattle.decompressor.proofs.log_printer.LogPrinter.print_rest.Goals.{After-deref_mut}
use Rattle.decompressor.proofs.log_printer.LogPrinter.print_rest.Given.{Over}
use Rattle.decompressor.proofs.log_printer.LogPrinter.print_rest.Goals as goal

-- what waits is shown
shown_there : {state : PrinterState} {blocks : List Block} (last : HasLast state blocks) {queues : List QueueState} → queues ≡ state.waiting → AreShown (closed_by blocks) state.reader queues state.lists last.records
shown_there {state} {blocks} last is = subst (λ (queues : List QueueState). AreShown (closed_by blocks) state.reader queues state.lists last.records) (sym is) last.shown

-- all that waits is ready to be printed
all_ready : (g : Over) (c : After-deref_mut g) (blocks : List Block) → HasLast (the_view c.self.inside) blocks → HasToPrint true c.self.inside.reader blocks blocks c.deref_mut.result.now c.close_all.new.merger
all_ready g c blocks last =
    subst (λ (waiting : List QueueState). HasToPrint true c.self.inside.reader blocks blocks waiting c.close_all.new.merger) (sym c.deref_mut.ensures.value)
    (all_ready_now last (c.close_all.ensures (closed_by blocks) c.self.inside.reader last.records (shown_there last c.deref.ensures.value)))

pub close_all-requires-clause-few : goal.close_all-requires-clause-few
close_all-requires-clause-few g c =
    let (blocks, last) = subst (λ (s : PrinterState). HasRest s) (sym c.self.view_is) c.requires.last in
    omega (arith, few_wait last, ap length c.deref.ensures.value)

pub close_all-requires-clause-shown : goal.close_all-requires-clause-shown
close_all-requires-clause-shown g c =
    let (blocks, last) = subst (λ (s : PrinterState). HasRest s) (sym c.self.view_is) c.requires.last in
    (closed_by blocks, c.self.inside.reader, last.records, shown_there last c.deref.ensures.value)

pub print_ready-requires-clause-ready : goal.print_ready-requires-clause-ready
print_ready-requires-clause-ready g c =
    let (blocks, last) = subst (λ (s : PrinterState). HasRest s) (sym c.self.view_is) c.requires.last in
    (blocks, blocks, all_ready g (goal.at.print_ready-requires-clause-ready g c).After-deref_mut blocks last)

pub returns-in_err-self-inside-clause-printed : goal.returns-in_err-self-inside-clause-printed
returns-in_err-self-inside-clause-printed g c =
    let at = (goal.at.returns-in_err-self-inside-clause-printed g c).After-deref_mut in
    let new : PrinterState = record (the_view c.self.inside) { waiting = (with_items c.self.inside.waiting c.print_ready.new.waiting).items; lists = c.print_ready.new.merger } in
    subst (λ (s : PrinterState). PrintsRest s new (g.K.Sink.put c.args.out.now) (g.K.Sink.put c.print_ready.new.out) (g.K.Sink.faults c.args.out.now) (g.K.Sink.faults c.print_ready.new.out) c.from_residual.result) c.self.view_is
    (λ blocks last. prints_cut _ new c.from_residual.result c.from_residual.ensures.1 (c.in_err-self-inside.ensures.printed blocks blocks (all_ready g at blocks last)))

pub overflow_add-self : goal.overflow_add-self
overflow_add-self g c =
    let (blocks, last) = subst (λ (s : PrinterState). HasRest s) (sym c.self.view_is) c.requires.last in
    let ready_now = all_ready g (goal.at.overflow_add-self g c).After-deref_mut blocks last in
    omega (arith, lines_fit last.lines (c.in_ok-self-inside.ensures.printed blocks blocks ready_now).0 last.few)

pub returns-clause-printed : goal.returns-clause-printed
returns-clause-printed g c =
    let at = (goal.at.returns-clause-printed g c).After-deref_mut in
    let same = with_items_is c.self.inside.waiting c.print_ready.new.waiting (omega (arith, c.print_ready.auto.waiting, ap length c.deref_mut.ensures.value, c.self.inside.waiting.ok.0)) in
    let new : PrinterState = record { reader = c.self.inside.reader; waiting = (with_items c.self.inside.waiting c.print_ready.new.waiting).items; lists = c.print_ready.new.merger; lines = c.self.inside.lines + c.in_ok-self-inside.field-0 } in
    subst (λ (s : PrinterState). PrintsRest s new (g.K.Sink.put c.args.out.now) (g.K.Sink.put c.print_ready.new.out) (g.K.Sink.faults c.args.out.now) (g.K.Sink.faults c.print_ready.new.out) (Ok tt)) c.self.view_is
    (λ blocks last.
    let (more, faults) = c.in_ok-self-inside.ensures.printed blocks blocks (all_ready g at blocks last) in
    (prints_on last.lines more same, faults))
