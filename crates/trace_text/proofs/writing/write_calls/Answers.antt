use Rattle.std.proofs.Common.{ℕ, ◌+◌, List, ◌++◌, drop, refl, sym, ap, ◌∙◌}
use Rattle.nl_io.proofs.lemmas.TextWriters.{carries_held, carries_more}
use Rattle.trace_text.specs.declared.writing.WriteTraceFault.TheVariants.{Failed, NoMemory}
use Rattle.trace_text.proofs.CallTexts.{calls_text, calls_more, calls_all, fresh_line, cut_on, memory_wanted, goes_on_fault}
use Rattle.trace_text.proofs.writing.write_calls.Goals as goal

pub loop-place-init : goal.loop-place-init
loop-place-init g c = record {
  so_far = c.args.text.now;
  carries = carries_held c.args.text.now c.args.text.now _ refl;
  joined = refl;
  counted = refl;
  others = g.met.K.Sink.rest_same _;
}

pub returns-in_err-push_call-clause-written : goal.returns-in_err-push_call-clause-written
returns-in_err-push_call-clause-written g c =
    let was = c.loop-place.invariant in
    goes_on_fault _ _ _ _ _ _ NoMemory c.from_residual.result c.from_residual.ensures.1 (memory_wanted _ was.so_far _ _ _ _ _ _ was.joined was.carries was.counted)

pub returns-in_err-put-clause-written : goal.returns-in_err-put-clause-written
returns-in_err-put-clause-written g c =
    let was = c.loop-place.invariant in
    let next = calls_more _ was.so_far c.args.trace.now c.args.places.now c.loop-place.place-index (record { stamp = 0; writer = 0; ordinal = 0 }) _ was.joined c.loop-place-test.true c.in-Some.ensures in
    let line = fresh_line _ _ _ _ c.deref.ensures.value c.in_ok-push_call.ensures c.clear.ensures.items in
    goes_on_fault _ _ _ _ _ _ Failed c.from_residual-in_err-put.result c.from_residual-in_err-put.ensures.1
    (cut_on _ was.so_far _ _ _ _ _ _ _ _ _ Failed next was.carries was.counted (rw line at c.in_err-put.ensures.cut_off))

pub loop-place-preserved : goal.loop-place-preserved
loop-place-preserved g c =
    let was = c.loop-place.invariant in
    let run = c.args.trace.now in
    let next = calls_more _ was.so_far run c.args.places.now c.loop-place.place-index (record { stamp = 0; writer = 0; ordinal = 0 }) _ was.joined c.loop-place-test.true c.in-Some.ensures in
    let line = fresh_line _ _ _ _ c.deref.ensures.value c.in_ok-push_call.ensures c.clear.ensures.items in
    record {
      so_far = was.so_far ++ c.deref.result.now;
      carries = carries_more _ was.so_far _ _ _ _ _ _ refl was.carries c.in_ok-put.ensures.ok;
      joined = next ∙ ap (λ (b : List ℕ). was.so_far ++ b ++ calls_text run (drop (c.loop-place.place-index + 1) c.args.places.now)) (sym line);
      counted = c.in_ok-put.ensures.counted ∙ was.counted;
      others = g.met.K.Sink.rest_then _ _ _ was.others c.put.ensures.others;
    }

pub returns-clause-written : goal.returns-clause-written
returns-clause-written g c =
    let was = c.loop-place.invariant in
    (calls_all _ was.so_far _ _ _ c.args.trace.now c.args.places.now c.loop-place.place-index was.joined c.loop-place-test.false was.carries, was.counted)
