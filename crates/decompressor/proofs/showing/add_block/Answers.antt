use Rattle.std.proofs.Common.{◌<◌, ◌++◌, Bool, length, refl, ap, sym, subst, ◌∙◌, arith}
use Rattle.std.specs.Prelude.{OnOk, slice_set}
use Rattle.checkpoint_io.specs.Blocks.{Block}
use Rattle.checkpoint_io.specs.NextBlocks.{HasBody}
use Rattle.decompressor.specs.Waiting.{list_of, records_at, AddsBlock}
use Rattle.decompressor.proofs.Queued.{held_set, held_same, on_ok}
use Rattle.decompressor.proofs.Heads.{takes_extent, takes_close, extent_may, close_may}
use Rattle.decompressor.proofs.showing.add_block.Goals as goal

pub bounds-waiting-writer : goal.bounds-waiting-writer
bounds-waiting-writer c =
    let (closed, next, records, tells, body, may, shown) = c.requires in
    (extent_may c.args.block next closed (length c.args.waiting.now) c.in-Extent.writer c.in-Extent.is tells may).known

pub bounds-waiting-writer-in-Closed : goal.bounds-waiting-writer-in-Closed
bounds-waiting-writer-in-Closed c =
    let (closed, next, records, tells, body, may, shown) = c.requires in
    (close_may c.args.block next closed (length c.args.waiting.now) c.in-Closed.writer c.in-Closed.is tells may).0

pub add_records-requires : goal.add_records-requires
add_records-requires c =
    let (closed, next, records, tells, body, may, shown) = c.requires in
    let writer = c.in-Extent.writer in
    let m = extent_may c.args.block next closed (length c.args.waiting.now) writer c.in-Extent.is tells may in
    let among : writer < length records = omega (arith, m.known, shown.held.many) in (
      records_at records writer,
      held_same _ _ shown.held writer among c.index-waiting-writer.result,
      shown.heads.each writer among ∙ ap (λ (b : Bool). list_of b (records_at records writer)) m.is_open,
    )

pub close_writer-requires-clause-known : goal.close_writer-requires-clause-known
close_writer-requires-clause-known c =
    let (closed, next, records, tells, body, may, shown) = c.requires in
    omega (arith, (close_may c.args.block next closed (length c.args.waiting.now) c.in-Closed.writer c.in-Closed.is tells may).0, shown.heads.many, shown.held.many)

pub close_writer-requires-clause-shown : goal.close_writer-requires-clause-shown
close_writer-requires-clause-shown c =
    let (closed, next, records, tells, body, may, shown) = c.requires in
    let writer = c.in-Closed.writer in
    let known = close_may c.args.block next closed (length c.args.waiting.now) writer c.in-Closed.is tells may in
    let among : writer < length records = omega (arith, known.0, shown.held.many) in
    (closed writer, _, _, records_at records writer, held_same _ _ shown.held writer among c.index-waiting-writer-in-Closed.result, shown.heads.each writer among)

pub returns-in-Extent : goal.returns-in-Extent
returns-in-Extent c closed next records tells body may shown =
    let writer = c.in-Extent.writer in
    let reader = c.args.reader.now in
    let m = extent_may c.args.block next closed (length c.args.waiting.now) writer c.in-Extent.is tells may in
    let among : writer < length records = omega (arith, m.known, shown.held.many) in
    let (last, is) = subst (λ (block : Block). HasBody reader.header.clock.tick reader.messages block reader.body) m.is body in
    let all = records_at records writer ++ m.records in
    subst (λ (block : Block). OnOk c.add_records.result (AddsBlock closed block reader records (slice_set c.args.waiting.now writer c.add_records.new.queue) c.add_records.new.merger)) (sym m.is)
    (on_ok c.add_records.result
    (λ (holds, list). record {
      records = slice_set records writer all;
      takes = takes_extent closed c.args.merger.now records shown.heads writer m.records all (slice_set records writer all) c.add_records.new.merger among m.is_open refl refl list;
      held = held_set _ _ shown.held writer c.add_records.new.queue all among holds;
    })
    (c.add_records.ensures (records_at records writer) m.records last (held_same _ _ shown.held writer among c.index-waiting-writer.result)
    (shown.heads.each writer among ∙ ap (λ (b : Bool). list_of b (records_at records writer)) m.is_open) is))

pub returns-in-Closed : goal.returns-in-Closed
returns-in-Closed c closed next records tells body may shown =
    let writer = c.in-Closed.writer in
    let known = close_may c.args.block next closed (length c.args.waiting.now) writer c.in-Closed.is tells may in
    let among : writer < length records = omega (arith, known.0, shown.held.many) in
    let list = c.close_writer.ensures (closed writer) _ _ (records_at records writer) (held_same _ _ shown.held writer among c.index-waiting-writer-in-Closed.result) (shown.heads.each writer among) in
    subst (λ (block : Block). AddsBlock closed block c.args.reader.now records c.args.waiting.now c.close_writer.new.merger) (sym known.1) (record {
      records = records;
      takes = takes_close closed c.args.merger.now records shown.heads writer c.close_writer.new.merger among list;
      held = shown.held;
    })
