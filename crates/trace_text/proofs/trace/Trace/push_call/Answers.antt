use Rattle.std.proofs.Common.{sym, subst}
use Rattle.trace_text.specs.Recordings.{Recording}
use Rattle.trace_text.specs.Canonical.{HasText}
use Rattle.trace_text.specs.CallReading.{with_call}
use Rattle.trace_text.proofs.lemmas.RunSteps.{pushed}
use Rattle.trace_text.proofs.trace.Trace.push_call.Goals as goal

pub invariant_of-self : goal.invariant_of-self
invariant_of-self c =
    let run : Recording = record { version = c.self.inside.version; dictionary = c.self.inside.dictionary; clocks = c.self.inside.clocks; writers = c.self.inside.writers } in
    pushed run (record { writer = c.args.writer; call = c.args.call }) c.push_call.new.self c.push_call.result c.push_call.ensures.ok c.push_call.ensures.err c.self.invariant
    (subst (λ (r : Recording). HasText (with_call r (record { writer = c.args.writer; call = c.args.call }))) (sym c.self.view_is) c.requires.has_text)
