use Rattle.std.proofs.Common.{ℕ, sym, ap, ◌∙◌, arith}
use Rattle.std.specs.Prelude.{nat_eq}
use Rattle.std.proofs.lemmas.Bool.{eq-eqb}
use Rattle.buffer_extent.specs.Reading.{codes_in}
use Rattle.buffer_extent.proofs.lemmas.Codes.{length-codes_in}
use Rattle.buffer_extent.proofs.Arguments.{codes_past, one_code_past}
use Rattle.buffer_extent.proofs.numbers.are_padded.Goals as goal

pub returns-then-types-eq0 : goal.returns-then-types-eq0
returns-then-types-eq0 c =
    eq-eqb _ 0 c.if-types-eq0.true ∙ sym (codes_past (codes_in c.args.codes.now) c.args.types (omega (arith, c.requires, length-codes_in c.args.codes.now, c.if-types-eq0.true)))

pub returns-else-types-eq0 : goal.returns-else-types-eq0
returns-else-types-eq0 c =
    ap (λ (code : ℕ). nat_eq code 0) c.code_at.ensures.code ∙ sym (one_code_past (codes_in c.args.codes.now) c.args.types (omega (arith, c.requires, length-codes_in c.args.codes.now, c.if-types-eq0.false)))
