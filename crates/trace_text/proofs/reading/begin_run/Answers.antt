use Rattle.std.proofs.Common.{List, sym, subst}
use Rattle.arg_records.specs.declared.call.Call.{Call}
use Rattle.trace_text.specs.Canonical.{HasText}
use Rattle.trace_text.proofs.SpelledRuns.{start_has_text}
use Rattle.trace_text.proofs.reading.begin_run.Goals as goal

pub invariant_of-result : goal.invariant_of-result
invariant_of-result c =
    subst (λ (writers : List (List Call)). HasText (record { version = c.args.version; dictionary = c.args.dictionary; clocks = c.args.clocks; writers = writers })) (sym c.in_ok-writers.ensures)
    (start_has_text c.args.version c.args.dictionary c.args.clocks c.args.writers c.requires.known c.requires.messages c.requires.may_have c.requires.writers.0 c.requires.writers.1)
