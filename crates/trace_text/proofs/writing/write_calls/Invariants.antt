use Rattle.std.proofs.Common.{◌≡◌, ℕ, List, ◌++◌, drop}
use Rattle.nl_io.specs.TextWriters.{Carries}
use Rattle.trace_text.proofs.CallTexts.{calls_text}
use Rattle.trace_text.proofs.writing.write_calls.Given as goal

-- the text so far goes on with the lines of the calls that are left
abbrev pub invariant-loop-place : goal.invariant-loop-place
invariant-loop-place g l = record {
  so_far : List ℕ;
  carries : Carries so_far (g.K.Sink.put l.fn.sink) (g.K.Sink.put l.sink) l.text;
  joined : l.fn.text ++ calls_text l.trace l.places ≡ so_far ++ calls_text l.trace (drop l.place-index l.places);
  counted : g.K.Sink.faults l.sink ≡ g.K.Sink.faults l.fn.sink;
  others : g.K.Sink.rest l.fn.sink l.sink;
}
