use Rattle.std.proofs.Common.{◌≡◌, ◌≤◌, ◌+◌, ◌-◌, ◌*◌, ◌/◌, List, ℕ, length, take, drop, get_or, sym, ap, subst, ◌∙◌, arith}
use Rattle.std.proofs.Math.ListN.{set}
use Rattle.std.proofs.lemmas.Bool.{eqb-true, eqb-false}
use Rattle.std.proofs.lemmas.List.{nil_from_length}
use Rattle.printf_grammar.specs.declared.arg_type.ArgType.{ArgType}
use Rattle.printf_grammar.specs.declared.arg_type.ArgType.TheVariants.{Int}
use Rattle.printf_grammar.specs.declared.argument.Value.{Value}
use Rattle.buffer_extent.specs.Writing.{AreWordsOf}
use Rattle.buffer_extent.proofs.Writes.{PutsAll, TwoWords, two_words, one_words, two_cut, one_cut, none_put, last_put, two_put}
use Rattle.buffer_extent.proofs.put.put_numbers.Goals as goal

two : (kinds : List ArgType) (words : List ℕ) → 2 ≤ length kinds → (args : List Value) × AreWordsOf kinds args words → TwoWords (get_or kinds 0 Int) (get_or kinds 1 Int) (take (length kinds - 2) (drop 2 kinds)) words
two kinds words some (args, are) =
    two_words (get_or kinds 0 Int) (get_or kinds 1 Int) (take (length kinds - 2) (drop 2 kinds)) args words (subst (λ (k : List ArgType). AreWordsOf k args words) (two_cut kinds some) are)

pub put_number-low-requires-clause-words : goal.put_number-low-requires-clause-words
put_number-low-requires-clause-words c = let parts = two c.loop-kinds.kinds.now c.loop-kinds.rest.now c.in-len2-up.len_at_least c.loop-kinds.invariant.words in (parts.first, _, parts.begins)

pub put_number-high-requires-clause-words : goal.put_number-high-requires-clause-words
put_number-high-requires-clause-words c =
    let parts = two c.loop-kinds.kinds.now c.loop-kinds.rest.now c.in-len2-up.len_at_least c.loop-kinds.invariant.words in
    (parts.second, _, parts.begins_too c.put_number-low.result.1.now (c.put_number-low.ensures.written parts.first _ parts.begins).1)

pub loop-kinds-preserved : goal.loop-kinds-preserved
loop-kinds-preserved c =
    let loop = c.loop-kinds in
    let kinds = loop.kinds.now in
    let low = c.put_number-low in
    let high = c.put_number-high in
    let parts = two kinds loop.rest.now c.in-len2-up.len_at_least loop.invariant.words in
    let middle = (low.ensures.written parts.first _ parts.begins).1 in
    let rest = (high.ensures.written parts.second _ (parts.begins_too low.result.1.now middle)).1 in
    let cut = two_cut kinds c.in-len2-up.len_at_least in
    let more : List ArgType = take (length kinds - 2) (drop 2 kinds) in
    let fewer : length more + 2 ≡ length kinds = omega (arith, ap length cut) in
    let before : loop.place + 1 + (length more + 1) / 2 ≤ loop.end = omega (arith, loop.invariant.before, fewer) in
    let room : high.result.2 + 8 * length more ≤ c.args.at + (length c.args.types.now + 1) / 2 + 8 * length c.args.types.now = omega (arith, loop.invariant.room, fewer, low.ensures.bound, high.ensures.bound) in
    let before_too : loop.place + 1 + (length more + 1) / 2 ≤ high.result.2 = omega (arith, before, low.ensures.bound, high.ensures.bound) in
    record {
      words = (parts.others, parts.left high.result.1.now rest);
      before = before_too;
      room = room;
      goes_on = λ new end others.
          loop.invariant.goes_on new end (subst (λ (k : List ArgType). PutsAll k loop.rest.now loop.body loop.place loop.end new end) (sym cut)
          (two_put (get_or kinds 0 Int) (get_or kinds 1 Int) more loop.rest.now low.result.1.now high.result.1.now loop.body low.new.body high.new.body new loop.place loop.end low.result.2 high.result.2 low.result.0 high.result.0 end
          before (omega (arith, room, c.requires.room, loop.auto.body)) low.ensures.written high.ensures.written others));
    }

pub returns-then-is_empty-clause-written : goal.returns-then-is_empty-clause-written
returns-then-is_empty-clause-written c =
    let loop = c.loop-kinds in
    let none = nil_from_length loop.kinds.now (eqb-true _ _ (sym c.is_empty.ensures ∙ c.if-is_empty.true)) in
    loop.invariant.goes_on loop.body loop.end (subst (λ (k : List ArgType). PutsAll k loop.rest.now loop.body loop.place loop.end loop.body loop.end) (sym none) (none_put loop.rest.now loop.body loop.place loop.end))

pub put_number-last-requires-clause-words : goal.put_number-last-requires-clause-words
put_number-last-requires-clause-words c =
    let loop = c.loop-kinds in
    let some = eqb-false _ _ (sym c.is_empty.ensures ∙ c.if-is_empty.false) in
    let (args, are) = loop.invariant.words in
    let last = one_words (get_or loop.kinds.now 0 Int) args loop.rest.now (subst (λ (k : List ArgType). AreWordsOf k args loop.rest.now) (one_cut loop.kinds.now (omega arith)) are) in
    (last.0, _, last.1)

pub returns-clause-written : goal.returns-clause-written
returns-clause-written c =
    let loop = c.loop-kinds in
    let last = c.put_number-last in
    let some = eqb-false _ _ (sym c.is_empty.ensures ∙ c.if-is_empty.false) in
    let one : length loop.kinds.now ≡ 1 = omega arith in
    let new : List ℕ = set last.new.body loop.place last.result.0 in
    loop.invariant.goes_on new last.result.2 (subst (λ (k : List ArgType). PutsAll k loop.rest.now loop.body loop.place loop.end new last.result.2) (sym (one_cut loop.kinds.now one))
    (last_put (get_or loop.kinds.now 0 Int) loop.rest.now last.result.1.now loop.body last.new.body loop.place loop.end last.result.0 last.result.2 (omega (arith, loop.invariant.before, one))
    (omega (arith, loop.invariant.room, one, last.ensures.bound, c.requires.room, loop.auto.body)) last.ensures.written))
