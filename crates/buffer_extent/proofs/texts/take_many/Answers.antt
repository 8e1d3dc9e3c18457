use Rattle.std.proofs.Common.{List, subst, sym, ap, ◌∙◌, ◌+◌, ◌∷◌, [], arith}
use Rattle.std.specs.Prelude.{pos}
use Rattle.std.proofs.lemmas.List.{map-append}
use Rattle.printf_grammar.specs.declared.arg_type.ArgType.TheVariants.{Int}
use Rattle.printf_grammar.specs.declared.argument.Value.{Value}
use Rattle.printf_grammar.specs.Types.{argument_value, values_of}
use Rattle.buffer_extent.specs.declared.fault.BodyCause.TheVariants as causes
use Rattle.buffer_extent.specs.declared.numbers.Number.TheVariants.{Signed}
use Rattle.buffer_extent.specs.Reading.{value_at}
use Rattle.nibble_pack.proofs.lemmas.Parsing.{IsReadSoFar, stands_at, one_read}
use Rattle.buffer_extent.proofs.Arguments.{MayStand-length, stands_there}
use Rattle.buffer_extent.proofs.texts.take_many.Goals as goal

pub bounds-numbers-place : goal.bounds-numbers-place
bounds-numbers-place g c = omega (arith, MayStand-length c.args.types.now c.args.numbers.now c.requires.fit, c.loop-place-test.true)

pub take_value-requires : goal.take_value-requires
take_value-requires g c = stands_there c.args.types.now c.args.numbers.now c.loop-place.place Int (Signed (pos 0)) c.requires.fit c.loop-place-test.true

pub loop-place-preserved : goal.loop-place-preserved
loop-place-preserved g c =
    let many = MayStand-length c.args.types.now c.args.numbers.now c.requires.fit in
    let stands = stands_at causes.RecordCut value_at c.args.types.now c.args.numbers.now c.loop-place.place Int (Signed (pos 0)) c.loop-place-test.true (omega (arith, many, c.loop-place-test.true)) in
    let read = one_read causes.RecordCut value_at c.args.types.now c.args.numbers.now c.args.bytes.now (values_of c.loop-place.args.items) c.loop-place.place c.loop-place.rest.now _ _ (argument_value c.in_ok-arg.arg) c.in_ok-arg.back.now c.loop-place.invariant.read stands c.in_ok-arg.ensures in
    let put = ap values_of c.push.ensures.items ∙ map-append argument_value c.loop-place.args.items (c.in_ok-arg.arg ∷ []) in
    record {
      many = omega (arith, c.push.ensures.len, c.loop-place.invariant.many);
      read = subst (λ (all : List Value). IsReadSoFar causes.RecordCut value_at c.args.types.now c.args.numbers.now c.args.bytes.now all (c.loop-place.place + 1) c.in_ok-arg.back.now) (sym put) read;
    }
