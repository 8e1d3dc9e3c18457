use Rattle.trace_text.proofs.CallFieldLemmas.{AreCounted}
use Rattle.trace_text.proofs.call_fields.read_arguments.Given as goal

abbrev pub invariant-loop-kind : goal.invariant-loop-kind
invariant-loop-kind l = AreCounted l.types l.bytes l.kind-index l.rest l.kept l.words
