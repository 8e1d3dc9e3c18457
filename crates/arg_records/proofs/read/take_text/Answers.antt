use Rattle.std.proofs.Common.{◌≡◌, ◌<◌, ◌^◌, ◌+◌, ◌/◌, ℕ, List, length, drop, get_or, sym, ap, subst, arith}
use Rattle.std.proofs.lemmas.List.{drop_more, take_rest}
use Rattle.std.proofs.lemmas.List.Elements.{All-from_get_or, All-rest}
use Rattle.printf_grammar.specs.declared.arg_type.ArgType.TheVariants as types
use Rattle.printf_grammar.specs.declared.argument.Value.TheVariants as values
use Rattle.arg_records.specs.Reading.{BeginsWithWordsOf}
use Rattle.arg_records.proofs.Reading.{argument_room, text_room, text_holds, text_made}
use Rattle.arg_records.proofs.read.take_text.Goals as goal

pub split_at-requires : goal.split_at-requires
split_at-requires c =
    let words = c.args.words.now in
    let it = c.requires in
    let is = drop_more words 0 0 (argument_room types.Text words it.0 it.1 it.2) in
    let room = text_room words (drop 1 words) (get_or words 0 0) it.0 it.1 it.2 is in
    omega (arith, room.1, c.div_ceil.ensures, ap length (take_rest words 1))

pub returns : goal.returns
returns c =
    let words = c.args.words.now in
    let first = get_or words 0 0 in
    let rest = drop 1 words in
    let it = c.requires in
    let is = drop_more words 0 0 (argument_room types.Text words it.0 it.1 it.2) in
    let room = text_room words rest first it.0 it.1 it.2 is in
    let below = All-rest (λ (w : ℕ). w < 2 ^ 64) first rest words is (All-from_get_or (λ (w : ℕ). w < 2 ^ 64) words 0 (λ i _. (c.type_inv.words i).fits)) in
    let count = c.div_ceil.result in
    let count_is : count ≡ (first + 7) / 8 = omega (arith, c.div_ceil.ensures) in
    let front = rw (take_rest words 1) at c.split_at.ensures.front in
    let behind = rw (take_rest words 1) at c.split_at.ensures.back in
    let padded = text_holds words rest c.split_at.result.0.now first count it.0 it.1 below it.2 is count_is front in
    let made = text_made words rest c.split_at.result.0.now c.split_at.result.1.now first count below is room.0 count_is (omega (arith, room.1, count_is)) front behind padded in
    subst (λ (text : List ℕ). BeginsWithWordsOf types.Text words (values.Text text) c.split_at.result.1.now) (sym c.in_ok-copy_text.ensures) made
