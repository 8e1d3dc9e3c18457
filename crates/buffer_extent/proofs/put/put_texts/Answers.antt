use Rattle.std.proofs.Common.{◌+◌, ◌<◌, ◌≤◌, length, get_or, drop, sym, ap, ◌∙◌, arith}
use Rattle.std.specs.List.{flat_map}
use Rattle.printf_grammar.proofs.lemmas.Fitting.{Fits-length}
use Rattle.arg_records.specs.Frames.{words_of_argument}
use Rattle.arg_records.specs.Places.{with_words}
use Rattle.arg_records.proofs.lemmas.Places.{no_words}
use Rattle.buffer_extent.proofs.Packing.{no_value, value_at, words_begin, bytes_at}
use Rattle.buffer_extent.proofs.Staging.{no_texts, text_room, one_put, all_put}
use Rattle.buffer_extent.proofs.put.put_texts.Goals as goal

pub split_argument-requires : goal.split_argument-requires
split_argument-requires c =
    let (args, are, room) = c.requires.room in (
      get_or args c.loop-kind.kind-index no_value,
      flat_map words_of_argument (drop (c.loop-kind.kind-index + 1) args),
      words_begin c.args.types.now args c.loop-kind.kind-index c.loop-kind.rest.now are.fits c.loop-kind-test.true (c.loop-kind.invariant args are).rest_is,
    )

pub put_argument_text-end-requires : goal.put_argument_text-end-requires
put_argument_text-end-requires c =
    let (args, are, room) = c.requires.room in
    let place = c.loop-kind.kind-index in
    let so_far = c.loop-kind.invariant args are in
    let is = c.split_argument.ensures _ _ (words_begin c.args.types.now args place c.loop-kind.rest.now are.fits c.loop-kind-test.true so_far.rest_is) in
    let within : place < length args = omega (arith, Fits-length args c.args.types.now are.fits, c.loop-kind-test.true) in (
      get_or args place no_value,
      value_at c.args.types.now args place are.fits c.loop-kind-test.true,
      bytes_at args place are.bytes,
      is.0,
      omega (arith, text_room args c.args.body.now c.loop-kind.body c.args.at c.loop-kind.end place c.loop-kind.rest.now so_far within, room, c.loop-kind.auto.body),
    )

pub loop-kind-preserved : goal.loop-kind-preserved
loop-kind-preserved c = λ args are.
    let place = c.loop-kind.kind-index in
    let so_far = c.loop-kind.invariant args are in
    let is = c.split_argument.ensures _ _ (words_begin c.args.types.now args place c.loop-kind.rest.now are.fits c.loop-kind-test.true so_far.rest_is) in
    let within : place < length args = omega (arith, Fits-length args c.args.types.now are.fits, c.loop-kind-test.true) in
    let fits = value_at c.args.types.now args place are.fits c.loop-kind-test.true in
    let (mine, here, room) = c.requires.room in
    let inside : c.loop-kind.end ≤ length c.loop-kind.body = omega (arith, (c.loop-kind.invariant mine here).places, room, c.loop-kind.auto.body) in
    one_put args c.args.body.now c.loop-kind.body c.put_argument_text-end.new.body c.args.at c.loop-kind.end c.put_argument_text-end.result place c.loop-kind.rest.now c.split_argument.result.1.now so_far within inside
    (c.put_argument_text-end.ensures.written (get_or args place no_value) fits (bytes_at args place are.bytes) is.0) (c.put_argument_text-end.ensures.end (get_or args place no_value) fits is.0) is.1

pub returns-clause-written : goal.returns-clause-written
returns-clause-written c = λ args are.
    (all_put args c.args.body.now c.loop-kind.body c.args.at c.loop-kind.end c.loop-kind.kind-index c.loop-kind.rest.now (c.loop-kind.invariant args are) (omega (arith, Fits-length args c.args.types.now are.fits, c.loop-kind-test.false))).0

pub returns-clause-end : goal.returns-clause-end
returns-clause-end c = λ args are.
    (all_put args c.args.body.now c.loop-kind.body c.args.at c.loop-kind.end c.loop-kind.kind-index c.loop-kind.rest.now (c.loop-kind.invariant args are) (omega (arith, Fits-length args c.args.types.now are.fits, c.loop-kind-test.false))).1

pub returns-then-words-types-clause-written : goal.returns-then-words-types-clause-written
returns-then-words-types-clause-written c = λ args are.
    sym (ap (with_words c.args.body.now c.args.at) (no_texts c.args.types.now args c.args.words.now are c.if-words-types.true) ∙ no_words c.args.body.now c.args.at)

pub returns-then-words-types-clause-end : goal.returns-then-words-types-clause-end
returns-then-words-types-clause-end c = λ args are. omega (arith, ap length (no_texts c.args.types.now args c.args.words.now are c.if-words-types.true))
