use Rattle.std.proofs.Common.{rules, refl, arith}
use Rattle.printf_grammar.specs.declared.argument.Value.TheVariants.{Signed as SignedValue}
use Rattle.trace_text.proofs.call_fields.keep_from.Goals as goal

pub returns-in-Some-clause-ok : goal.returns-in-Some-clause-ok
returns-in-Some-clause-ok c = record {
  value = SignedValue c.in-Some.signed;
  told = let told = c.in-Some.ensures.some in search rules;
  keeps = record { words_are = refl; few = omega arith; kept = λ args before. let kept = c.keep_signed.ensures args before in search rules };
}
