use Rattle.std.proofs.Common.{length, ◌-◌, ◌≡◌, ◌≤◌, take}
use Rattle.nl_io.specs.Content.{with_end}
use Rattle.nl_io.proofs.sink.write_all.Given as goal

abbrev pub invariant-loop-done : goal.invariant-loop-done
invariant-loop-done g l = record {
  within : l.done ≤ length l.bytes;
  taken : g.K.Sink.put l.sink ≡ with_end (take l.done l.bytes) (g.K.Sink.put l.fn.sink);
  counted : g.K.Sink.faults l.sink ≡ g.K.Sink.faults l.fn.sink;
  others : g.K.Sink.rest l.fn.sink l.sink;
}

abbrev pub decreases-loop-done : goal.decreases-loop-done
decreases-loop-done g l = length l.bytes - l.done
