-- Plain `%d`.
use Rattle.std.specs.Prelude.{false}
use Rattle.printf_grammar.specs.declared.piece.Spec.{Spec}
use Rattle.printf_grammar.specs.declared.piece.Size.TheVariants.{Absent}
use Rattle.printf_grammar.specs.declared.piece.Length.TheVariants.{Plain}
use Rattle.printf_grammar.specs.declared.piece.Conversion.TheVariants.{D}

-- `%d` with nothing between
abbrev pub plain_d : Spec
plain_d =
    record {
      minus = false;
      plus = false;
      space = false;
      sharp = false;
      zero = false;
      width = Absent;
      precision = Absent;
      length = Plain;
      conversion = D;
    }
