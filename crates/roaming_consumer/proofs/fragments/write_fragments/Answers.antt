use Rattle.std.proofs.Common.{◌≡◌, ◌-◌, min, ◌∙◌, refl, arith}
use Rattle.roaming_consumer.proofs.Fragmenting.{goes_from, goes_on, goes_all, goes_stop}
use Rattle.roaming_consumer.proofs.fragments.write_fragments.Goals as goal

pub loop-next-init : goal.loop-next-init
loop-next-init g c = record {
  written = goes_from _ _ _ _ c.requires.forward;
  counted = refl;
  others = g.met.K.Sink.rest_same _;
}

pub returns-in_err-write_all-clause-sent : goal.returns-in_err-write_all-clause-sent
returns-in_err-write_all-clause-sent g c =
    let w = c.in_err-write_all.ensures in
    let count : c.min-count.result ≡ min (c.args.end - c.loop-next.next) 16 = omega (arith, c.min-count.ensures, c.from.ensures) in
    goes_stop c.from_residual.result _ _ c.loop-next.next _ c.min-count.result _ _ _ _ _ _ _ c.from_residual.ensures.0 c.loop-next.invariant.written c.loop-next-test.true c.requires.within (omega arith) c.requires.formed count c.put_fragment-len.ensures.spelled c.loop-next.invariant.counted w.err w.cause w.count

pub loop-next-preserved : goal.loop-next-preserved
loop-next-preserved g c =
    let count : c.min-count.result ≡ min (c.args.end - c.loop-next.next) 16 = omega (arith, c.min-count.ensures, c.from.ensures) in
    let w = c.in_ok-write_all.ensures in
    record {
      written = goes_on _ _ c.loop-next.next _ c.min-count.result _ _ _ _ c.loop-next.invariant.written c.loop-next-test.true c.requires.within count c.put_fragment-len.ensures.spelled w.ok;
      counted = w.counted ∙ c.loop-next.invariant.counted;
      others = g.met.K.Sink.rest_then _ _ _ c.loop-next.invariant.others c.write_all.ensures.others;
    }

pub returns-clause-sent : goal.returns-clause-sent
returns-clause-sent g c = goes_all _ _ c.loop-next.next _ _ _ _ _ c.loop-next.invariant.written c.loop-next-test.false c.loop-next.invariant.counted
