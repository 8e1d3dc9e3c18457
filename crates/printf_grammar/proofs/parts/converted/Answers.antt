use Rattle.std.proofs.Common.{ap, ◌∙◌}
use Rattle.printf_grammar.specs.Parts.{modifier_bytes}
use Rattle.printf_grammar.proofs.Behind.{conversion_cause}
use Rattle.printf_grammar.proofs.parts.converted.Goals as goal

pub returns-then-taken-eq-MAX_ARGUMENTS : goal.returns-then-taken-eq-MAX_ARGUMENTS
returns-then-taken-eq-MAX_ARGUMENTS c = λ head e ended.
    let length = c.in_ok-length.ensures in
    rw (c.in_ok-conversion.ensures, c.if-taken-eq-MAX_ARGUMENTS.true) (conversion_cause head 64 c.in_ok-conversion.conversion c.in_ok-length.length (e ∙ ap modifier_bytes length.0) length.1)
