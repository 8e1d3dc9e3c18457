use Rattle.std.proofs.Common.{◌-◌, ◌≤◌, List, ℕ, ◌++◌, length, take, max, Ok, sym, ap, subst, arith}
use Rattle.log_dictionary.specs.Messages.{AreFormed}
use Rattle.nl_io.specs.Content.{PutsFront}
use Rattle.checkpoint_io.specs.Blocks.{extent_head_bytes}
use Rattle.roaming_consumer.specs.Growth.{due_clocks}
use Rattle.roaming_consumer.specs.Sinks.{Sends}
use Rattle.roaming_consumer.proofs.Due.{due_within}
use Rattle.roaming_consumer.proofs.Fragmenting.{fragments_are_there}
use Rattle.roaming_consumer.proofs.lemmas.Sending.{sends_all, sends_err, clocks_stop, fragments_stop, extent_behind}
use Rattle.roaming_consumer.proofs.roamer.Roamer.write_draft.Goals as goal

pub write_fragments-requires-clause-formed : goal.write_fragments-requires-clause-formed
write_fragments-requires-clause-formed g c = subst AreFormed (sym c.as_slice-messages.ensures.value) c.as_slice-messages.ensures.formed

pub returns-in_err-write_clocks-clause-sent : goal.returns-in_err-write_clocks-clause-sent
returns-in_err-write_clocks-clause-sent g c =
    let roamer = c.args.self.now in
    let dictionary = roamer.dictionary.now in
    let end = max roamer.defined c.args.draft.ids in
    let formed : AreFormed dictionary = c.as_slice-messages.ensures.formed in
    let few = c.as_slice-messages.ensures.few in
    let known : end ≤ length dictionary = omega (arith, roamer.known, c.requires.ids) in
    let others = fragments_are_there dictionary (end - roamer.defined) roamer.defined end (omega arith) known (omega (arith, known, few)) formed in
    clocks_stop c.from_residual.result _ _ _ _ _ _ _ _ others.0 _ _ _ _ c.from_residual.ensures.0 others.1 (rw c.due-due.ensures.value at c.in_err-write_clocks.ensures.sent)

pub returns-in_err-write_fragments-clause-sent : goal.returns-in_err-write_fragments-clause-sent
returns-in_err-write_fragments-clause-sent g c =
    let clocks = rw c.due-due.ensures.value at c.in_ok-write_clocks.ensures.sent in
    fragments_stop c.from_residual-in_err-write_fragments.result _ _ _ _ _ _ _ _ _ (g.K.Sink.put c.write_clocks.new.sink) _ _ (g.K.Sink.faults c.write_clocks.new.sink) _ c.from_residual-in_err-write_fragments.ensures.0 clocks.ok clocks.counted (rw (c.as_slice-messages.ensures.value, c.max-defined.ensures) at c.in_err-write_fragments.ensures.sent)

pub returns-in_err-write_extent-clause-sent : goal.returns-in_err-write_extent-clause-sent
returns-in_err-write_extent-clause-sent g c =
    let version = c.args.self.now.version in
    let clocks = rw c.due-due.ensures.value at c.in_ok-write_clocks.ensures.sent in
    let put = c.in_err-write_extent.ensures.sent in
    let extent = λ (items : List ℕ). extent_head_bytes version c.args.writer (length (take c.args.draft.len items)) ++ take c.args.draft.len items in
    let all = extent c.args.self.now.body.items in
    let puts : PutsFront all (g.K.Sink.put c.write_fragments.new.sink) (g.K.Sink.put c.write_extent.new.sink) =
    subst (λ (items : List ℕ). PutsFront (extent items) (g.K.Sink.put c.write_fragments.new.sink) (g.K.Sink.put c.write_extent.new.sink)) c.deref.ensures.value put.err in
    extent_behind c.from_residual-in_err-write_extent.result _ _ _ _ _ _ _ (take c.args.draft.len c.args.self.now.body.items) _ (g.K.Sink.put c.write_clocks.new.sink) (g.K.Sink.put c.write_fragments.new.sink) _ _ (g.K.Sink.faults c.write_clocks.new.sink) (g.K.Sink.faults c.write_fragments.new.sink) _ clocks.ok clocks.counted (rw (c.as_slice-messages.ensures.value, c.max-defined.ensures) at c.in_ok-write_fragments.ensures.sent)
    (sends_err c.from_residual-in_err-write_extent.result all _ _ _ _ c.from_residual-in_err-write_extent.ensures.0 puts put.cause put.count)

pub returns-clause-sent : goal.returns-clause-sent
returns-clause-sent g c =
    let version = c.args.self.now.version in
    let clocks = rw c.due-due.ensures.value at c.in_ok-write_clocks.ensures.sent in
    let put = c.in_ok-write_extent.ensures.sent in
    let extent = λ (items : List ℕ). extent_head_bytes version c.args.writer (length (take c.args.draft.len items)) ++ take c.args.draft.len items in
    extent_behind (Ok tt) _ _ _ _ _ _ _ (take c.args.draft.len c.args.self.now.body.items) _ (g.K.Sink.put c.write_clocks.new.sink) (g.K.Sink.put c.write_fragments.new.sink) _ _ (g.K.Sink.faults c.write_clocks.new.sink) (g.K.Sink.faults c.write_fragments.new.sink) _ clocks.ok clocks.counted (rw (c.as_slice-messages.ensures.value, c.max-defined.ensures) at c.in_ok-write_fragments.ensures.sent)
    (subst (λ (items : List ℕ). Sends (Ok tt) (extent items) (g.K.Sink.put c.write_fragments.new.sink) (g.K.Sink.put c.write_extent.new.sink) (g.K.Sink.faults c.write_fragments.new.sink) (g.K.Sink.faults c.write_extent.new.sink)) c.deref.ensures.value
    (sends_all (Ok tt) _ _ _ _ _ put.ok put.counted tt tt put.count))

pub invariant_of-self-2-clause-few_written : goal.invariant_of-self-2-clause-few_written
invariant_of-self-2-clause-few_written g c =
    let roamer = c.args.self.now in
    let due = due_clocks roamer.clocks roamer.written c.args.draft.last in
    omega (arith, ap length {y = due} c.due-due.ensures.value, due_within roamer.clocks roamer.written c.args.draft.last roamer.few_written)
