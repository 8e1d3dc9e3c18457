use Rattle.std.proofs.Common.{◌≡◌, List, ℕ, [], Ok, refl, subst, ◌∙◌, arith}
use Rattle.nl_io.specs.Content.{with_end, PutsFront}
use Rattle.nl_io.proofs.lemmas.Contents.{with_end-none}
use Rattle.roaming_consumer.proofs.Due.{filled, clock_goes, clock_stops, clocks_all}
use Rattle.roaming_consumer.proofs.lemmas.Sending.{sends_all}
use Rattle.roaming_consumer.proofs.clocks.write_clocks.Goals as goal

pub loop-clock-init : goal.loop-clock-init
loop-clock-init g c = record {
  written = with_end-none [] _;
  counted = refl;
  others = g.met.K.Sink.rest_same _;
}

pub returns-in_err-write_all-clause-sent : goal.returns-in_err-write_all-clause-sent
returns-in_err-write_all-clause-sent g c =
    let w = c.in_err-write_all.ensures in
    let whole = filled _ c.loop-clock.buffer _ 25 c.put_clock.ensures.put (omega (arith, c.loop-clock-test.array_long)) in
    clock_stops c.from_residual.result c.args.clocks.now c.loop-clock.clock-index (record { tick = 0; nanos = 0; rate = 0 }) _ (g.K.Sink.put c.loop-clock.sink) _ _ (g.K.Sink.faults c.loop-clock.sink) _ c.from_residual.ensures.0 c.loop-clock-test.true c.loop-clock.invariant.written c.loop-clock.invariant.counted
    (subst (λ (bytes : List ℕ). PutsFront bytes (g.K.Sink.put c.loop-clock.sink) (g.K.Sink.put c.write_all.new.sink)) whole w.err) w.cause w.count

pub loop-clock-preserved : goal.loop-clock-preserved
loop-clock-preserved g c =
    let w = c.in_ok-write_all.ensures in
    let whole = filled _ c.loop-clock.buffer _ 25 c.put_clock.ensures.put (omega (arith, c.loop-clock-test.array_long)) in
    record {
      written =
          clock_goes c.args.clocks.now c.loop-clock.clock-index (record { tick = 0; nanos = 0; rate = 0 }) _ (g.K.Sink.put c.loop-clock.sink) _ c.loop-clock-test.true c.loop-clock.invariant.written
          (subst (λ (bytes : List ℕ). g.K.Sink.put c.write_all.new.sink ≡ with_end bytes (g.K.Sink.put c.loop-clock.sink)) whole w.ok);
      counted = w.counted ∙ c.loop-clock.invariant.counted;
      others = g.met.K.Sink.rest_then _ _ _ c.loop-clock.invariant.others c.write_all.ensures.others;
    }

pub returns-clause-sent : goal.returns-clause-sent
returns-clause-sent g c = sends_all (Ok tt) _ _ _ _ _ (clocks_all _ _ _ _ c.loop-clock-test.false c.loop-clock.invariant.written) c.loop-clock.invariant.counted tt tt (omega (arith, c.loop-clock.invariant.counted))
