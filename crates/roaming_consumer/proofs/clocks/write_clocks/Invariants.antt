use Rattle.std.proofs.Common.{◌≡◌, take}
use Rattle.nl_io.specs.Content.{with_end}
use Rattle.roaming_consumer.specs.Growth.{clocks_bytes}
use Rattle.roaming_consumer.proofs.clocks.write_clocks.Given as goal

abbrev pub invariant-loop-clock : goal.invariant-loop-clock
invariant-loop-clock g l = record {
  written : g.K.Sink.put l.sink ≡ with_end (clocks_bytes (take l.clock-index l.clocks)) (g.K.Sink.put l.fn.sink);
  counted : g.K.Sink.faults l.sink ≡ g.K.Sink.faults l.fn.sink;
  others : g.K.Sink.rest l.fn.sink l.sink;
}
