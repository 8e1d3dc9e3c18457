use Rattle.std.proofs.Common.{◌≢◌, Option, sym, subst}
use Rattle.std.proofs.lemmas.List.Elements.{recursion_from_All}
use Rattle.std.specs.Option.{IfNone}
use Rattle.trace_text.specs.declared.lines.Lines.{Lines}
use Rattle.trace_text.specs.Dictionaries.{LacksFirstLine}
use Rattle.trace_text.specs.Dictionaries.{dictionary_line}
use Rattle.trace_text.proofs.DictionaryReads.{lacks_unended, lacks_other}
use Rattle.trace_text.proofs.LineFronts.{line_differs}
use Rattle.trace_text.proofs.dictionaries.behind_first_line.Goals as goal

pub returns-in_err-line-clause-none : goal.returns-in_err-line-clause-none
returns-in_err-line-clause-none c = subst (λ (o : Option Lines). IfNone o (LacksFirstLine c.args.lines.bytes.now)) (sym c.from_residual.ensures) (lacks_unended c.args.lines.bytes.now (recursion_from_All (λ byte. byte ≢ 10) c.args.lines.bytes.now c.in_err-line.ensures.none))

pub returns-then-ne-clause-none : goal.returns-then-ne-clause-none
returns-then-ne-clause-none c = lacks_other c.args.lines.bytes.now c.in_ok-line.line.now c.in_ok-line.rest.bytes.now c.in_ok-line.ensures.some.parts (recursion_from_All (λ byte. byte ≢ 10) c.in_ok-line.line.now c.in_ok-line.ensures.some.first) (line_differs _ dictionary_line c.ne.result c.ne.ensures c.if-ne.true)
