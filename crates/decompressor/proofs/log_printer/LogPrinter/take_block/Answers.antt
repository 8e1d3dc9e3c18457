use Rattle.std.proofs.Common.{◌≡◌, ◌+◌, false, Ok, List, [], ◌∷◌, ◌++◌, length, ap, sym, subst, ◌∙◌, arith}
use Rattle.std.specs.Vec.{with_items}
use Rattle.std.proofs.lemmas.List.{with_items_is}
use Rattle.checkpoint_io.specs.Blocks.{Block}
use Rattle.checkpoint_io.specs.NextBlocks.{Describes}
use Rattle.decompressor.specs.contracts.log_printer.LogPrinter.{the_view}
use Rattle.decompressor.specs.Settling.{closed_by}
use Rattle.decompressor.specs.Decompressors.{PrinterState, HasToPrint, HasTaken, HasNext, PrintsNext}
use Rattle.decompressor.proofs.Blocks.{may_add, ready}
use Rattle.decompressor.proofs.Parts.{lines_fit, prints_on, prints_cut, none_put}
use Rattle.decompressor.proofs.log_printer.LogPrinter.take_block.Goals.{After-deref_mut-2}
use Rattle.decompressor.proofs.log_printer.LogPrinter.take_block.Given.{Over}
use Rattle.decompressor.proofs.log_printer.LogPrinter.take_block.Goals as goal

shown : (g : Over) (c : After-deref_mut-2 g) → c.deref_mut-2.result.now ≡ c.add_block.new.waiting
shown g c = c.deref_mut-2.ensures.value ∙ with_items_is c.self.inside.waiting c.add_block.new.waiting (omega (arith, c.add_block.auto.waiting, ap length c.deref_mut.ensures.value, c.self.inside.waiting.ok.0))

-- what the block makes ready to be printed
ready_behind : (g : Over) (c : After-deref_mut-2 g) (first : List Block) (next : Block) → Describes c.args.block next → HasTaken (the_view c.self.inside) first next → HasToPrint false c.self.inside.reader first (first ++ next ∷ []) c.deref_mut-2.result.now c.add_block.new.merger
ready_behind g c first next tells read =
    let (may, there) = may_add read c.deref_mut.ensures.value in
    ready read (shown g c) (c.in_ok-add_block.ensures (closed_by first) next read.records tells read.body may there)

pub add_block-requires : goal.add_block-requires
add_block-requires g c =
    let (first, next, tells, read) = subst (λ (s : PrinterState). HasNext s c.args.block) (sym c.self.view_is) c.requires.next in
    let (may, there) = may_add read c.deref_mut.ensures.value in
    (closed_by first, next, read.records, tells, read.body, may, there)

pub print_ready-requires-clause-ready : goal.print_ready-requires-clause-ready
print_ready-requires-clause-ready g c =
    let (first, next, tells, read) = subst (λ (s : PrinterState). HasNext s c.args.block) (sym c.self.view_is) c.requires.next in
    (first, first ++ next ∷ [], ready_behind g (goal.at.print_ready-requires-clause-ready g c).After-deref_mut-2 first next tells read)

pub returns-in_err-add_block-clause-printed : goal.returns-in_err-add_block-clause-printed
returns-in_err-add_block-clause-printed g c =
    let put = g.K.Sink.put c.args.out.now in
    let faults = g.K.Sink.faults c.args.out.now in
    let new : PrinterState = record (the_view c.self.inside) { waiting = (with_items c.self.inside.waiting c.add_block.new.waiting).items; lists = c.add_block.new.merger } in
    subst (λ (s : PrinterState). PrintsNext s new c.args.block put put faults faults c.from_residual.result) c.self.view_is
    (λ first next tells read. prints_cut _ _ c.from_residual.result c.from_residual.ensures.1 (none_put first next read.valid))

pub returns-in_err-self-inside-clause-printed : goal.returns-in_err-self-inside-clause-printed
returns-in_err-self-inside-clause-printed g c =
    let at = (goal.at.returns-in_err-self-inside-clause-printed g c).After-deref_mut-2 in
    let new : PrinterState = record (the_view c.self.inside) { waiting = (with_items (with_items c.self.inside.waiting c.add_block.new.waiting) c.print_ready.new.waiting).items; lists = c.print_ready.new.merger } in
    subst (λ (s : PrinterState). PrintsNext s new c.args.block (g.K.Sink.put c.args.out.now) (g.K.Sink.put c.print_ready.new.out) (g.K.Sink.faults c.args.out.now) (g.K.Sink.faults c.print_ready.new.out) c.from_residual-in_err-self-inside.result) c.self.view_is
    (λ first next tells read. prints_cut _ new c.from_residual-in_err-self-inside.result c.from_residual-in_err-self-inside.ensures.1
    (c.in_err-self-inside.ensures.printed first (first ++ next ∷ []) (ready_behind g at first next tells read)))

pub overflow_add-self : goal.overflow_add-self
overflow_add-self g c =
    let (first, next, tells, read) = subst (λ (s : PrinterState). HasNext s c.args.block) (sym c.self.view_is) c.requires.next in
    let ready_now = ready_behind g (goal.at.overflow_add-self g c).After-deref_mut-2 first next tells read in
    omega (arith, lines_fit {all = first ++ next ∷ []} read.lines (c.in_ok-self-inside.ensures.printed first (first ++ next ∷ []) ready_now).0 read.few)

pub returns-clause-printed : goal.returns-clause-printed
returns-clause-printed g c =
    let at = (goal.at.returns-clause-printed g c).After-deref_mut-2 in
    let between = with_items c.self.inside.waiting c.add_block.new.waiting in
    let same = with_items_is between c.print_ready.new.waiting (omega (arith, c.print_ready.auto.waiting, ap length (shown g at), c.add_block.auto.waiting, ap length c.deref_mut.ensures.value, c.self.inside.waiting.ok.0)) in
    let new : PrinterState = record { reader = c.self.inside.reader; waiting = (with_items between c.print_ready.new.waiting).items; lists = c.print_ready.new.merger; lines = c.self.inside.lines + c.in_ok-self-inside.field-0 } in
    subst (λ (s : PrinterState). PrintsNext s new c.args.block (g.K.Sink.put c.args.out.now) (g.K.Sink.put c.print_ready.new.out) (g.K.Sink.faults c.args.out.now) (g.K.Sink.faults c.print_ready.new.out) (Ok tt)) c.self.view_is
    (λ first next tells read.
    let (more, faults) = c.in_ok-self-inside.ensures.printed first (first ++ next ∷ []) (ready_behind g at first next tells read) in
    (prints_on read.lines more same, faults))
