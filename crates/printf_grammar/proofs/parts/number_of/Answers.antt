use Rattle.std.proofs.lemmas.Bool.{OnTrue_at}
use Rattle.printf_grammar.proofs.Numbers.{digit_more, digit_above}
use Rattle.printf_grammar.proofs.parts.number_of.Goals as goal

pub returns-then-longer-gt-MAX_SIZE : goal.returns-then-longer-gt-MAX_SIZE
returns-then-longer-gt-MAX_SIZE c = digit_above _ _ _ c.loop-place-test.true c.loop-place.invariant (OnTrue_at c.if-not-is_ascii_digit.false c.is_ascii_digit.ensures.bound) c.if-longer-gt-MAX_SIZE.true

pub loop-place-preserved : goal.loop-place-preserved
loop-place-preserved c = digit_more _ _ _ c.loop-place-test.true c.loop-place.invariant (OnTrue_at c.if-not-is_ascii_digit.false c.is_ascii_digit.ensures.bound) c.if-longer-gt-MAX_SIZE.false
