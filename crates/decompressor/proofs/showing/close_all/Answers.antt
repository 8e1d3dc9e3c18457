use Rattle.std.proofs.Common.{◌≡◌, ℕ, ◌<◌, ◌||◌, true, eqb, List, length, get_or, ap, sym, subst, arith, inl, inr}
use Rattle.std.proofs.lemmas.Bool.Decides.{eqb_tells}
use Rattle.arg_records.specs.declared.call.Call.{Call}
use Rattle.checkpoint_io.specs.Readers.{ReaderState}
use Rattle.decompressor.specs.Waiting.{QueueState, HoldsRecords, records_at, AreHeld}
use Rattle.decompressor.proofs.Tests.{or_true}
use Rattle.decompressor.proofs.Queued.{held_same}
use Rattle.decompressor.proofs.Heads.{heads_by, close_one}
use Rattle.decompressor.proofs.showing.close_all.Goals as goal

pub overflow_cast-writer : goal.overflow_cast-writer
overflow_cast-writer c = omega (arith, c.requires.few, c.loop-writer-test.true)

-- the queue that is looked at has its writer's records
there : (reader : ReaderState) (waiting : List QueueState) (records : List (List Call)) (k : ℕ) (queue : QueueState) → AreHeld reader.messages reader.header.clock.tick waiting records → k < length records → queue ≡ get_or waiting k queue
    → HoldsRecords reader.messages reader.header.clock.tick queue (records_at records k)
there reader waiting records k queue held among is =
    subst (λ (q : QueueState). HoldsRecords reader.messages reader.header.clock.tick q (records_at records k)) (sym is) (held_same reader.messages reader.header.clock.tick held k among queue)

pub close_writer-requires-clause-known : goal.close_writer-requires-clause-known
close_writer-requires-clause-known c =
    let (closed, reader, records, shown) = c.requires.shown in
    let (now, heads, before) = c.loop-writer.invariant closed reader records shown in
    omega (arith, heads.many, shown.held.many, c.loop-writer-test.true)

pub close_writer-requires-clause-shown : goal.close_writer-requires-clause-shown
close_writer-requires-clause-shown c =
    let (closed, reader, records, shown) = c.requires.shown in
    let k = c.loop-writer.writer in
    let (now, heads, before) = c.loop-writer.invariant closed reader records shown in
    let among : k < length records = omega (arith, shown.held.many, c.loop-writer-test.true) in
    (now k, reader.messages, reader.header.clock.tick, records_at records k, there reader c.args.waiting.now records k c.index-waiting-writer.result shown.held among c.index-waiting-writer.is, heads.each k among)

pub loop-writer-preserved : goal.loop-writer-preserved
loop-writer-preserved c closed reader records shown =
    let k = c.loop-writer.writer in
    let (now, heads, before) = c.loop-writer.invariant closed reader records shown in
    let among : k < length records = omega (arith, shown.held.many, c.loop-writer-test.true) in (
      (λ w. eqb w k || now w),
      close_one now c.loop-writer.merger records heads k c.close_writer.new.merger among
          (c.close_writer.ensures (now k) reader.messages reader.header.clock.tick (records_at records k) (there reader c.args.waiting.now records k c.index-waiting-writer.result shown.held among c.index-waiting-writer.is) (heads.each k among)),
      (λ w less. elim (eqb_tells w k) [
        | inl same ↦ ap (λ b. b || now w) same.0
        | inr apart ↦ or_true (eqb w k) (before w (omega (arith, less, apart.1)))
      ]),
    )

pub returns : goal.returns
returns c closed reader records shown =
    let (now, heads, before) = c.loop-writer.invariant closed reader records shown in
    heads_by now c.loop-writer.merger records heads (λ writer. true) (λ w known. before w (omega (arith, known, shown.held.many, c.loop-writer-test.false)))
