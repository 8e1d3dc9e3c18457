use Rattle.direct_printf.proofs.Spelling.{digits_value-Digits, length-Digits}
use Rattle.direct_printf.proofs.laws.digits_spell_the_number.Goals as goal

pub returns : goal.returns
returns c = record {
  value = λ number base precision upper. digits_value-Digits number base precision upper;
  many = λ number base precision upper. length-Digits number base precision upper;
}
