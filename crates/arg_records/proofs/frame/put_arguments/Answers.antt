use Rattle.std.proofs.Common.{◌∙◌, subst, arith}
use Rattle.std.specs.Prelude.{All}
use Rattle.std.proofs.lemmas.List.{take_all}
use Rattle.std.proofs.lemmas.List.Elements.{All-more}
use Rattle.arg_records.specs.Kinds.{HoldsBytes}
use Rattle.arg_records.proofs.Arguments.{others_left, words_from, bytes_of_all}
use Rattle.arg_records.proofs.frame.put_arguments.Goals as goal

pub put_argument-end-requires : goal.put_argument-end-requires
put_argument-end-requires g c = omega (arith, c.requires, c.loop-arg.invariant.places, words_from g.A.Argument.value c.args.args.now c.loop-arg.arg-index _ _ c.loop-arg-test.true c.arg-item.is c.arg.ensures)

pub loop-arg-preserved : goal.loop-arg-preserved
loop-arg-preserved g c =
    let value = g.A.Argument.value in
    let words = words_from value c.args.args.now c.loop-arg.arg-index _ _ c.loop-arg-test.true c.arg-item.is c.arg.ensures in
    record {
      long = c.put_argument-end.array_long;
      places = omega (arith, c.put_argument-end.ensures.end, c.loop-arg.invariant.places, words);
      left = others_left value c.args.args.now c.loop-arg.arg-index _ _ c.loop-arg-test.true c.arg-item.is c.arg.ensures c.loop-arg.into _ c.loop-arg.end _ (omega (arith, c.loop-arg.invariant.long)) c.put_argument-end.ensures.written c.put_argument-end.ensures.end ∙ c.loop-arg.invariant.left;
      bytes = All-more (λ arg. HoldsBytes (value arg)) c.args.args.now c.loop-arg.arg-index _ c.loop-arg-test.true c.loop-arg.invariant.bytes (rw (c.arg.ensures, c.arg-item.is) at c.put_argument-end.ensures.bytes);
    }

pub returns-clause-bytes : goal.returns-clause-bytes
returns-clause-bytes g c =
    let value = g.A.Argument.value in
    bytes_of_all value c.args.args.now (subst (All (λ arg. HoldsBytes (value arg))) (take_all c.loop-arg.arg-index c.args.args.now (omega arith)) c.loop-arg.invariant.bytes)
