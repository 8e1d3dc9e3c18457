use Rattle.std.proofs.Common.{◌≡◌, ◌-◌}
use Rattle.roaming_consumer.proofs.Fragmenting.{Goes}
use Rattle.roaming_consumer.proofs.fragments.write_fragments.Given as goal

abbrev pub invariant-loop-next : goal.invariant-loop-next
invariant-loop-next g l = record {
  written : Goes l.messages l.first l.next l.end (g.K.Sink.put l.fn.sink) (g.K.Sink.put l.sink);
  counted : g.K.Sink.faults l.sink ≡ g.K.Sink.faults l.fn.sink;
  others : g.K.Sink.rest l.fn.sink l.sink;
}

abbrev pub decreases-loop-next : goal.decreases-loop-next
decreases-loop-next g l = l.end - l.next
