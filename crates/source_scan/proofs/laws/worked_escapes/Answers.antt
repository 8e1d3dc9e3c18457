use Rattle.std.proofs.Common.{refl}
use Rattle.source_scan.specs.Escapes.{unescaped_behind}
use Rattle.source_scan.proofs.laws.worked_escapes.Goals as goal

pub returns-clause-letters : goal.returns-clause-letters
unfolding unescaped_behind lib.Utf8.encode
returns-clause-letters c = refl

pub returns-clause-octal : goal.returns-clause-octal
unfolding unescaped_behind lib.Utf8.encode
returns-clause-octal c = refl

pub returns-clause-octal_digits : goal.returns-clause-octal_digits
unfolding unescaped_behind lib.Utf8.encode
returns-clause-octal_digits c = refl

pub returns-clause-hexadecimal : goal.returns-clause-hexadecimal
unfolding unescaped_behind lib.Utf8.encode
returns-clause-hexadecimal c = refl

pub returns-clause-short : goal.returns-clause-short
unfolding unescaped_behind lib.Utf8.encode
returns-clause-short c = refl

pub returns-clause-long : goal.returns-clause-long
unfolding unescaped_behind lib.Utf8.encode
returns-clause-long c = refl

pub returns-clause-greatest : goal.returns-clause-greatest
unfolding unescaped_behind lib.Utf8.encode
returns-clause-greatest c = refl

pub returns-clause-too_great : goal.returns-clause-too_great
unfolding unescaped_behind lib.Utf8.encode
returns-clause-too_great c = refl

pub returns-clause-too_short : goal.returns-clause-too_short
unfolding unescaped_behind lib.Utf8.encode
returns-clause-too_short c = refl

pub returns-clause-unknown : goal.returns-clause-unknown
unfolding unescaped_behind lib.Utf8.encode
returns-clause-unknown c = refl
