use Rattle.std.proofs.Common.{◌≡◌, ℕ, List, length, Option, Result, Ok, Err, refl, ap, sym, subst, ◌∙◌, rules}
use Rattle.nl_io.specs.Count.{Rose}
use Rattle.nl_io.specs.Content.{Told}
use Rattle.checkpoint_io.specs.Blocks.{clocks_of}
use Rattle.checkpoint_io.specs.declared.block.Block.{Block as ReadBlock}
use Rattle.checkpoint_io.specs.declared.header.Header.{Header}
use Rattle.checkpoint_io.specs.NextBlocks.{TakesNext, EndsThere, AnswersNext}
use Rattle.checkpoint_io.specs.Readers.{ReaderState, StandsFor}
use Rattle.decompressor.specs.declared.report.Report.{Report}
use Rattle.decompressor.specs.declared.fault.DecodeFault.{DecodeFault}
use Rattle.decompressor.specs.declared.fault.DecodeFault.TheVariants.{Damaged, ReadFault, NoMemory}
use Rattle.decompressor.specs.declared.step.Step.{Step}
use Rattle.decompressor.specs.declared.step.Step.TheVariants.{More, End}
use Rattle.decompressor.specs.contracts.log_printer.LogPrinter.{the_view}
use Rattle.decompressor.specs.Decompression.{all_calls}
use Rattle.decompressor.specs.Settling.{open_writers}
use Rattle.decompressor.specs.Decompressors.{PrinterState, HasPrinted, CanStep, HasTaken, HasLast, StepsFrom}
use Rattle.decompressor.proofs.Stepping.{blocks, at_reader, EndsSo, has_read, advances, had_last, whole_reads, damaged_reads, failed_reads, completes, nothing_put, all_put, rest_stops, lacks, block_stops}
use Rattle.decompressor.proofs.log_printer.LogPrinter.step.Goals.{After-next_block, In-Ok-Some, In-Ok-None, In-Err-Damaged, In-Err-ReadFault}
use Rattle.decompressor.proofs.log_printer.LogPrinter.step.Given.{Over}
use Rattle.decompressor.proofs.log_printer.LogPrinter.step.Goals as goal

module _ (g : Over) where
  -- ---- the call that reads the next block

  module _ (c : After-next_block g) where
    -- the printer in front of it
    abbrev old : PrinterState
    old = the_view c.self.inside

    abbrev new : ReaderState
    new = c.next_block.new.self

    abbrev left : Told
    left = g.S.Source.left c.args.source.now

    abbrev behind : Told
    behind = g.S.Source.left c.next_block.new.source

    abbrev before : ℕ
    before = g.S.Source.faults c.args.source.now

    abbrev after : ℕ
    after = g.S.Source.faults c.next_block.new.source

    abbrev was : Told
    was = g.K.Sink.put c.args.out.now

    begun : CanStep old
    begun = subst (λ (s : PrinterState). CanStep s) (sym c.self.view_is) c.requires.printed

    -- what is said of the fields is said of the printer
    says : (state : PrinterState) (is : Told) (answer : Result Step DecodeFault) → StepsFrom old state left behind before after was is answer → StepsFrom c.args.self.now state left behind before after was is answer
    says state is answer = subst (λ (s : PrinterState). StepsFrom s state left behind before after was is answer) c.self.view_is

    last : {taken text : List ℕ} (printed : HasPrinted old taken text) → new.times.clocks ≡ old.reader.times.clocks → HasLast (at_reader old new) (blocks printed)
    last printed clocks = had_last printed new c.next_block.ensures.header clocks c.next_block.ensures.defined

  -- a block was read
  module _ (c : In-Ok-Some g) {taken text : List ℕ} (printed : HasPrinted (the_view c.self.inside) taken text) where
    next : TakesNext c.self.inside.reader c.next_block.new.self taken printed.read c.in-Ok-Some.block (g.S.Source.left c.args.source.now) (g.S.Source.left c.next_block.new.source)
    next =
        subst (λ (answer : Option ReadBlock). AnswersNext c.self.inside.reader c.next_block.new.self taken printed.read answer (g.S.Source.left c.args.source.now) (g.S.Source.left c.next_block.new.source))
        c.in-Ok-Some.field-0-is (c.in-Ok-Some.ensures.ok taken printed.read)

    took : HasTaken (at_reader (the_view c.self.inside) c.next_block.new.self) (blocks printed) next.block
    took = has_read printed c.next_block.new.self c.next_block.ensures.header next c.next_block.ensures.defined

  -- no block stands there
  module _ (c : In-Ok-None g) {taken text : List ℕ} (printed : HasPrinted (the_view c.self.inside) taken text) where
    ends : EndsThere c.self.inside.reader c.next_block.new.self taken printed.read (g.S.Source.left c.args.source.now) (g.S.Source.left c.next_block.new.source)
    ends =
        subst (λ (answer : Option ReadBlock). AnswersNext c.self.inside.reader c.next_block.new.self taken printed.read answer (g.S.Source.left c.args.source.now) (g.S.Source.left c.next_block.new.source))
        c.in-Ok-None.field-0-is (c.in-Ok-None.ensures.ok taken printed.read)

    ended_clocks : c.next_block.new.self.times.clocks ≡ c.self.inside.reader.times.clocks
    ended_clocks =
        let end = ends in
        end.stands.times.clocks_are
        ∙ (λ i. clocks_of (c.next_block.ensures.header i) (end.blocks i))
        ∙ sym printed.read.times.clocks_are

    whole : (state : PrinterState) (report : Report) → report.lines ≡ length (all_calls c.self.inside.reader.header (blocks printed)) → report.unclosed ≡ open_writers c.self.inside.reader.header (blocks printed)
        → EndsSo printed (g.S.Source.left c.args.source.now) state (g.S.Source.left c.next_block.new.source) (g.S.Source.faults c.args.source.now) (g.S.Source.faults c.next_block.new.source) (Ok report)
    whole state report lines unclosed =
        let counted : g.S.Source.faults c.next_block.new.source ≡ g.S.Source.faults c.args.source.now = search rules in
        whole_reads printed (g.S.Source.left c.args.source.now) state (g.S.Source.left c.next_block.new.source) (g.S.Source.faults c.args.source.now) (g.S.Source.faults c.next_block.new.source) report ends.ended counted lines unclosed

  -- the log is damaged there
  module _ (c : In-Err-Damaged g) {taken text : List ℕ} (printed : HasPrinted (the_view c.self.inside) taken text) where
    damaged : (state : PrinterState) (offset : ℕ) → offset ≡ c.self.inside.reader.offset
        → EndsSo printed (g.S.Source.left c.args.source.now) state (g.S.Source.left c.next_block.new.source) (g.S.Source.faults c.args.source.now) (g.S.Source.faults c.next_block.new.source) (Err (Damaged offset c.in-Err-Damaged.cause))
    damaged state offset same =
        let counted : g.S.Source.faults c.next_block.new.source ≡ g.S.Source.faults c.args.source.now = search rules in
        damaged_reads printed (g.S.Source.left c.args.source.now) state (g.S.Source.left c.next_block.new.source) (g.S.Source.faults c.args.source.now) (g.S.Source.faults c.next_block.new.source) offset c.in-Err-Damaged.cause same
        (c.next_block.ensures.damaged taken c.in-Err-Damaged.cause printed.read (c.in-Err-Damaged.is ∙ ap Err c.in-Err-Damaged.field-0-is)) counted

  -- a read failed
  module _ (c : In-Err-ReadFault g) {taken text : List ℕ} (printed : HasPrinted (the_view c.self.inside) taken text) where
    failed : (state : PrinterState) → EndsSo printed (g.S.Source.left c.args.source.now) state (g.S.Source.left c.next_block.new.source) (g.S.Source.faults c.args.source.now) (g.S.Source.faults c.next_block.new.source) (Err ReadFault)
    failed state =
        let rose : Rose (g.S.Source.faults c.args.source.now) (g.S.Source.faults c.next_block.new.source) = search rules in
        failed_reads printed (g.S.Source.left c.args.source.now) state (g.S.Source.left c.next_block.new.source) (g.S.Source.faults c.args.source.now) (g.S.Source.faults c.next_block.new.source)
        (c.next_block.ensures.cut taken printed.read (c.in-Err-ReadFault.is ∙ ap Err c.in-Err-ReadFault.field-0-is)) rose

pub take_block-requires-clause-next : goal.take_block-requires-clause-next
take_block-requires-clause-next g c =
    let at = goal.at.take_block-requires-clause-next g c in
    let (taken, text, printed) = begun g at.After-next_block in
    let n = next g at.In-Ok-Some printed in
    (blocks printed, n.block, n.tells, took g at.In-Ok-Some printed)

pub returns-in_err-take_block-in-Ok-Some-clause-step : goal.returns-in_err-take_block-in-Ok-Some-clause-step
returns-in_err-take_block-in-Ok-Some-clause-step g c =
    let at = goal.at.returns-in_err-take_block-in-Ok-Some-clause-step g c in
    let counted : after g at.After-next_block ≡ before g at.After-next_block = search rules in
    says g at.After-next_block c.take_block.new.self (g.K.Sink.put c.take_block.new.out) c.from_residual.result
    (λ taken text printed.
    let n = next g at.In-Ok-Some printed in
    block_stops printed c.next_block.new.self c.next_block.ensures.header n _ _ _ c.from_residual.result c.take_block.ensures.reader c.from_residual.ensures.1
    (c.in_err-take_block-in-Ok-Some.ensures.printed (blocks printed) n.block n.tells (took g at.In-Ok-Some printed)) counted)

pub returns-in_ok-take_block-in-Ok-Some-clause-step : goal.returns-in_ok-take_block-in-Ok-Some-clause-step
returns-in_ok-take_block-in-Ok-Some-clause-step g c =
    let at = goal.at.returns-in_ok-take_block-in-Ok-Some-clause-step g c in
    let counted : after g at.After-next_block ≡ before g at.After-next_block = search rules in
    says g at.After-next_block c.take_block.new.self (g.K.Sink.put c.take_block.new.out) (Ok More)
    (λ taken text printed.
    let n = next g at.In-Ok-Some printed in
    let did = c.in_ok-take_block-in-Ok-Some.ensures.printed (blocks printed) n.block n.tells (took g at.In-Ok-Some printed) in
    (advances printed c.next_block.new.self c.next_block.ensures.header n c.take_block.ensures.reader c.in-Ok-Some.ensures.failed.0 did.0, counted))

pub print_rest-requires-clause-last : goal.print_rest-requires-clause-last
print_rest-requires-clause-last g c =
    let at = goal.at.print_rest-requires-clause-last g c in
    let (taken, text, printed) = begun g at.After-next_block in
    (blocks printed, last g at.After-next_block printed (ended_clocks g at.In-Ok-None printed))

pub print_rest-requires-in-Err-Damaged-clause-last : goal.print_rest-requires-in-Err-Damaged-clause-last
print_rest-requires-in-Err-Damaged-clause-last g c =
    let at = goal.at.print_rest-requires-in-Err-Damaged-clause-last g c in
    let (taken, text, printed) = begun g at.After-next_block in
    (blocks printed, last g at.After-next_block printed c.in-Err-Damaged.ensures.kept.1)

pub print_rest-requires-in-Err-ReadFault-clause-last : goal.print_rest-requires-in-Err-ReadFault-clause-last
print_rest-requires-in-Err-ReadFault-clause-last g c =
    let at = goal.at.print_rest-requires-in-Err-ReadFault-clause-last g c in
    let (taken, text, printed) = begun g at.After-next_block in
    (blocks printed, last g at.After-next_block printed c.in-Err-ReadFault.ensures.kept.1)

pub returns-in-Err-NoMemory-clause-step : goal.returns-in-Err-NoMemory-clause-step
returns-in-Err-NoMemory-clause-step g c =
    let at = goal.at.returns-in-Err-NoMemory-clause-step g c in
    let counted : after g at.After-next_block ≡ before g at.After-next_block = search rules in
    says g at.After-next_block (at_reader (old g at.After-next_block) c.next_block.new.self) (g.K.Sink.put c.args.out.now) (Err NoMemory)
    (λ taken text printed. nothing_put printed c.next_block.new.self c.next_block.ensures.header _ _ _ _ _ c.in-Err-NoMemory.ensures.kept.0 counted)

pub returns-in_err-print_rest-in-Ok-None-clause-step : goal.returns-in_err-print_rest-in-Ok-None-clause-step
returns-in_err-print_rest-in-Ok-None-clause-step g c =
    let at = goal.at.returns-in_err-print_rest-in-Ok-None-clause-step g c in
    let state : PrinterState = c.print_rest.new.self in
    says g at.After-next_block state (g.K.Sink.put c.print_rest.new.out) c.from_residual-in_err-print_rest-in-Ok-None.result
    (λ taken text printed.
    let report : Report = record { lines = length (all_calls c.self.inside.reader.header (blocks printed)); unclosed = open_writers c.self.inside.reader.header (blocks printed) } in
    rest_stops printed c.next_block.new.self c.next_block.ensures.header _ _ _ _ state _ _ (Ok report) (whole g at.In-Ok-None printed state report refl refl) c.from_residual-in_err-print_rest-in-Ok-None.result
    c.from_residual-in_err-print_rest-in-Ok-None.ensures.1 (c.in_err-print_rest-in-Ok-None.ensures.printed (blocks printed) (last g at.After-next_block printed (ended_clocks g at.In-Ok-None printed))))

pub returns-in_err-print_rest-in-Err-Damaged-clause-step : goal.returns-in_err-print_rest-in-Err-Damaged-clause-step
returns-in_err-print_rest-in-Err-Damaged-clause-step g c =
    let at = goal.at.returns-in_err-print_rest-in-Err-Damaged-clause-step g c in
    let state : PrinterState = c.print_rest-in-Err-Damaged.new.self in
    let offset = c.self.inside.reader.offset in
    says g at.After-next_block state (g.K.Sink.put c.print_rest-in-Err-Damaged.new.out) c.from_residual-in_err-print_rest-in-Err-Damaged.result
    (λ taken text printed.
    rest_stops printed c.next_block.new.self c.next_block.ensures.header _ _ _ _ state _ _ (Err (Damaged offset c.in-Err-Damaged.cause)) (damaged g at.In-Err-Damaged printed state offset refl) c.from_residual-in_err-print_rest-in-Err-Damaged.result
    c.from_residual-in_err-print_rest-in-Err-Damaged.ensures.1 (c.in_err-print_rest-in-Err-Damaged.ensures.printed (blocks printed) (last g at.After-next_block printed c.in-Err-Damaged.ensures.kept.1)))

pub returns-in_err-print_rest-in-Err-ReadFault-clause-step : goal.returns-in_err-print_rest-in-Err-ReadFault-clause-step
returns-in_err-print_rest-in-Err-ReadFault-clause-step g c =
    let at = goal.at.returns-in_err-print_rest-in-Err-ReadFault-clause-step g c in
    let state : PrinterState = c.print_rest-in-Err-ReadFault.new.self in
    says g at.After-next_block state (g.K.Sink.put c.print_rest-in-Err-ReadFault.new.out) c.from_residual-in_err-print_rest-in-Err-ReadFault.result
    (λ taken text printed.
    rest_stops printed c.next_block.new.self c.next_block.ensures.header _ _ _ _ state _ _ (Err ReadFault) (failed g at.In-Err-ReadFault printed state) c.from_residual-in_err-print_rest-in-Err-ReadFault.result
    c.from_residual-in_err-print_rest-in-Err-ReadFault.ensures.1 (c.in_err-print_rest-in-Err-ReadFault.ensures.printed (blocks printed) (last g at.After-next_block printed c.in-Err-ReadFault.ensures.kept.1)))

pub returns-in_err-open_writers-in-Ok-None-clause-step : goal.returns-in_err-open_writers-in-Ok-None-clause-step
returns-in_err-open_writers-in-Ok-None-clause-step g c =
    let at = goal.at.returns-in_err-open_writers-in-Ok-None-clause-step g c in
    let state : PrinterState = c.print_rest.new.self in
    says g at.After-next_block state (g.K.Sink.put c.print_rest.new.out) c.from_residual-in_err-open_writers-in-Ok-None.result
    (λ taken text printed.
    let report : Report = record { lines = length (all_calls c.self.inside.reader.header (blocks printed)); unclosed = open_writers c.self.inside.reader.header (blocks printed) } in
    let did = c.in_ok-print_rest-in-Ok-None.ensures.printed (blocks printed) (last g at.After-next_block printed (ended_clocks g at.In-Ok-None printed)) in
    lacks printed state _ _ _ _ _ _ c.from_residual-in_err-open_writers-in-Ok-None.result c.from_residual-in_err-open_writers-in-Ok-None.ensures.1
    (all_put printed c.next_block.new.self c.next_block.ensures.header _ _ _ _ state _ _ (Ok report) (whole g at.In-Ok-None printed state report refl refl) did.0))

pub returns-in_ok-open_writers-in-Ok-None-clause-step : goal.returns-in_ok-open_writers-in-Ok-None-clause-step
returns-in_ok-open_writers-in-Ok-None-clause-step g c =
    let at = goal.at.returns-in_ok-open_writers-in-Ok-None-clause-step g c in
    let state : PrinterState = c.print_rest.new.self in
    let again = c.self-in-Ok-None.inside in
    let report : Report = record { lines = again.lines; unclosed = c.in_ok-open_writers-in-Ok-None.field-0 } in
    says g at.After-next_block state (g.K.Sink.put c.print_rest.new.out) (Ok (End report))
    (λ taken text printed.
    let did = c.in_ok-print_rest-in-Ok-None.ensures.printed (blocks printed) (last g at.After-next_block printed (ended_clocks g at.In-Ok-None printed)) in
    let end = ends g at.In-Ok-None printed in
    let lines : report.lines ≡ length (all_calls c.self.inside.reader.header (blocks printed)) =
    ap (λ (s : PrinterState). s.lines) c.self-in-Ok-None.view_is ∙ did.0.lines ∙ ap (λ (h : Header). length (all_calls h (blocks printed))) c.next_block.ensures.header in
    let reader_is : again.reader ≡ c.next_block.new.self = ap (λ (s : PrinterState). s.reader) c.self-in-Ok-None.view_is ∙ c.print_rest.ensures.reader in
    let unclosed : report.unclosed ≡ open_writers c.self.inside.reader.header (blocks printed) =
    subst (λ (r : ReaderState). (read : StandsFor r taken) → report.unclosed ≡ open_writers r.header read.blocks) reader_is (c.in_ok-open_writers-in-Ok-None.ensures taken) end.stands
    ∙ ap (λ (h : Header). open_writers h end.stands.blocks) c.next_block.ensures.header ∙ ap (open_writers c.self.inside.reader.header) end.blocks in
    completes printed c.next_block.new.self c.next_block.ensures.header _ (g.S.Source.left c.next_block.new.source) _ _ state _ _ (Ok report) (whole g at.In-Ok-None printed state report lines unclosed) did.0)

pub returns-in_ok-print_rest-in-Err-Damaged-clause-step : goal.returns-in_ok-print_rest-in-Err-Damaged-clause-step
returns-in_ok-print_rest-in-Err-Damaged-clause-step g c =
    let at = goal.at.returns-in_ok-print_rest-in-Err-Damaged-clause-step g c in
    let state : PrinterState = c.print_rest-in-Err-Damaged.new.self in
    let reader_is : c.self-in-Err-Damaged.inside.reader ≡ c.next_block.new.self = ap (λ (s : PrinterState). s.reader) c.self-in-Err-Damaged.view_is ∙ c.print_rest-in-Err-Damaged.ensures.reader in
    let offset_is : c.offset.result ≡ c.self.inside.reader.offset = c.offset.ensures ∙ ap (λ (r : ReaderState). r.offset) reader_is ∙ c.in-Err-Damaged.ensures.kept.0 in
    let answer : Result Report DecodeFault = Err (Damaged c.offset.result c.in-Err-Damaged.cause) in
    says g at.After-next_block state (g.K.Sink.put c.print_rest-in-Err-Damaged.new.out) (Err (Damaged c.offset.result c.in-Err-Damaged.cause))
    (λ taken text printed.
    let did = c.in_ok-print_rest-in-Err-Damaged.ensures.printed (blocks printed) (last g at.After-next_block printed c.in-Err-Damaged.ensures.kept.1) in
    completes printed c.next_block.new.self c.next_block.ensures.header _ (g.S.Source.left c.next_block.new.source) _ _ state _ _ answer (damaged g at.In-Err-Damaged printed state c.offset.result offset_is) did.0)

pub returns-in_ok-print_rest-in-Err-ReadFault-clause-step : goal.returns-in_ok-print_rest-in-Err-ReadFault-clause-step
returns-in_ok-print_rest-in-Err-ReadFault-clause-step g c =
    let at = goal.at.returns-in_ok-print_rest-in-Err-ReadFault-clause-step g c in
    let state : PrinterState = c.print_rest-in-Err-ReadFault.new.self in
    says g at.After-next_block state (g.K.Sink.put c.print_rest-in-Err-ReadFault.new.out) (Err ReadFault)
    (λ taken text printed.
    let did = c.in_ok-print_rest-in-Err-ReadFault.ensures.printed (blocks printed) (last g at.After-next_block printed c.in-Err-ReadFault.ensures.kept.1) in
    completes printed c.next_block.new.self c.next_block.ensures.header _ (g.S.Source.left c.next_block.new.source) _ _ state _ _ (Err ReadFault) (failed g at.In-Err-ReadFault printed state) did.0)
