use Rattle.std.proofs.Common.{List, ◌+◌, ◌∷◌, ◌++◌, [], arith}
use Rattle.std.specs.Prelude.{pos}
use Rattle.std.proofs.lemmas.List.{length-append}
use Rattle.printf_grammar.specs.declared.arg_type.ArgType.TheVariants.{Int}
use Rattle.printf_grammar.specs.Types.{argument_value}
use Rattle.buffer_extent.specs.declared.fault.BodyCause.TheVariants as causes
use Rattle.buffer_extent.specs.declared.numbers.Number.TheVariants.{Signed}
use Rattle.buffer_extent.specs.Reading.{value_at}
use Rattle.nibble_pack.proofs.lemmas.Parsing.{stands_at, one_read}
use Rattle.buffer_extent.proofs.Arguments.{MayStand-length, stands_there}
use Rattle.buffer_extent.proofs.texts.skip_texts.Goals as goal

pub bounds-numbers-place : goal.bounds-numbers-place
bounds-numbers-place c = omega (arith, MayStand-length c.args.types.now c.args.numbers.now c.requires.fit, c.loop-place-test.true)

pub take_value-requires : goal.take_value-requires
take_value-requires c = stands_there c.args.types.now c.args.numbers.now c.loop-place.place Int (Signed (pos 0)) c.requires.fit c.loop-place-test.true

pub loop-place-preserved : goal.loop-place-preserved
loop-place-preserved c =
    let (args, many, read) = c.loop-place.invariant in
    let stands = stands_at causes.RecordCut value_at c.args.types.now c.args.numbers.now c.loop-place.place Int (Signed (pos 0)) c.loop-place-test.true
    (omega (arith, MayStand-length c.args.types.now c.args.numbers.now c.requires.fit, c.loop-place-test.true)) in
    let value = argument_value c.in_ok-_arg._arg in (
      args ++ value ∷ [],
      omega (arith, many, length-append args (value ∷ [])),
      one_read causes.RecordCut value_at c.args.types.now c.args.numbers.now c.args.bytes.now args c.loop-place.place c.loop-place.rest.now _ _ value c.in_ok-_arg.back.now read stands c.in_ok-_arg.ensures,
    )
