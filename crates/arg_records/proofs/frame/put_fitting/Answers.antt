use Rattle.std.proofs.Common.{◌<◌, length, ◌∙◌, subst, arith}
use Rattle.std.specs.Prelude.{All}
use Rattle.std.proofs.lemmas.Grind.{common_steps}
use Rattle.std.proofs.lemmas.List.{take_all}
use Rattle.std.proofs.lemmas.List.Elements.{All-more}
use Rattle.printf_grammar.proofs.lemmas.Fitting.{Fits-length_of_args}
use Rattle.arg_records.specs.Kinds.{HoldsBytes}
use Rattle.arg_records.proofs.Arguments.{others_left, words_from, bytes_of_all, short_words}
use Rattle.arg_records.proofs.lemmas.Fitted.{short_fits}
use Rattle.arg_records.proofs.frame.put_fitting.Goals as goal

pub returns-then-types-args-clause-fits : goal.returns-then-types-args-clause-fits
returns-then-types-args-clause-fits g c =
    (λ e. absurd cc, λ fit. absurd (omega (arith, Fits-length_of_args g.A.Argument.value c.args.args.now c.args.types.now fit, c.if-types-args.true)))

pub loop-place-preserved : goal.loop-place-preserved
loop-place-preserved g c =
    let value = g.A.Argument.value in
    let within : c.loop-place.place < length c.args.args.now = omega arith in
    let words = words_from value c.args.args.now c.loop-place.place _ _ within c.index-args-place.is c.arg-arg.ensures in
    let put = c.put_within-end.ensures in
    record {
      long = c.put_within-end.array_long;
      few = omega (arith, c.loop-place.invariant.few, put.end, short_words _ (short_fits _ _ (c.takes.ensures.0 c.if-not-takes.false)));
      fits = grind (arith, common_steps, c.loop-place.invariant.fits);
      places = omega (arith, put.end, c.loop-place.invariant.places, words);
      left = λ small. others_left value c.args.args.now c.loop-place.place _ _ within c.index-args-place.is c.arg-arg.ensures c.loop-place.into _ c.loop-place.end _ (omega arith) (put.written small) put.end ∙ c.loop-place.invariant.left (omega (arith, put.end));
      bytes = λ small. All-more (λ arg. HoldsBytes (value arg)) c.args.args.now c.loop-place.place _ within (c.loop-place.invariant.bytes (omega (arith, put.end))) (rw (c.arg-arg.ensures, c.index-args-place.is) at (put.bytes small));
    }

pub returns-clause-bytes : goal.returns-clause-bytes
returns-clause-bytes g c small =
    let value = g.A.Argument.value in
    bytes_of_all value c.args.args.now (subst (All (λ arg. HoldsBytes (value arg))) (take_all c.loop-place.place c.args.args.now (omega arith)) (c.loop-place.invariant.bytes small))
