use Rattle.std.proofs.Common.{refl, arith}
use Rattle.printf_grammar.specs.declared.argument.Value.TheVariants.{Unsigned as UnsignedValue}
use Rattle.trace_text.proofs.call_fields.keep_to.Goals as goal

pub returns-in-Some-clause-ok : goal.returns-in-Some-clause-ok
returns-in-Some-clause-ok c = record {
  value = UnsignedValue c.in-Some.unsigned;
  told = c.in-Some.ensures.some;
  keeps = record { words_are = refl; few = omega arith; kept = c.keep_unsigned.ensures };
}
