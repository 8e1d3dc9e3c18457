use Rattle.std.proofs.Common.{arith}
use Rattle.std.specs.Prelude.{pos}
use Rattle.printf_grammar.specs.declared.arg_type.ArgType.TheVariants.{Int}
use Rattle.buffer_extent.specs.declared.numbers.Number.TheVariants.{Signed}
use Rattle.buffer_extent.proofs.Arguments.{MayStand-length, stands_there, words_left}
use Rattle.buffer_extent.proofs.numbers.is_staged.Goals as goal

pub bounds-numbers-place : goal.bounds-numbers-place
bounds-numbers-place c = omega (arith, MayStand-length c.args.types.now c.args.numbers.now c.requires.fit, c.loop-place-test.true)

pub words_of-words-requires : goal.words_of-words-requires
words_of-words-requires c = stands_there c.args.types.now c.args.numbers.now c.loop-place.place Int (Signed (pos 0)) c.requires.fit c.loop-place-test.true

pub loop-place-preserved : goal.loop-place-preserved
loop-place-preserved c =
    let left = words_left c.args.types.now c.args.numbers.now c.loop-place.place Int (Signed (pos 0)) c.loop-place-test.true (omega (arith, MayStand-length c.args.types.now c.args.numbers.now c.requires.fit, c.loop-place-test.true)) in
    record { left = omega (arith, left, c.loop-place.invariant.left, c.words_of-words.ensures.words); few = omega (arith, c.loop-place.invariant.few, c.words_of-words.ensures.few) }
