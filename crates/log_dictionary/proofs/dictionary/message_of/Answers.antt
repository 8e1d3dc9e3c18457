use Rattle.std.proofs.Common.{List, ℕ, subst, sym, ◌∙◌, ap, Err}
use Rattle.printf_grammar.specs.Spelling.{Spells}
use Rattle.log_dictionary.specs.declared.formats.FormatFault.{FormatFault}
use Rattle.log_dictionary.specs.declared.severity.Severity.{Severity}
use Rattle.log_dictionary.specs.MessageLines.{MessageLineFields, message_line_fields}
use Rattle.log_dictionary.proofs.lemmas.LineMessages.{parts_of, parts_spelled, message_spelled, format_is_spelled}
use Rattle.log_dictionary.proofs.dictionary.message_of.Goals as goal

abbrev made : ℕ → Severity → ℕ → List ℕ → List ℕ → MessageLineFields
made id severity number file format = record { id = id; severity = severity; number = number; file = file; format = format }

pub returns-in_default-clause-fault : goal.returns-in_default-clause-fault
returns-in_default-clause-fault c = λ id message spells. c.in_default.ensures.none (parts_of id message, parts_spelled c.args.line.now id message spells)

pub returns-in-Err-Bad-clause-fault : goal.returns-in-Err-Bad-clause-fault
returns-in-Err-Bad-clause-fault c = λ id message spells.
    c.in-Err-Bad.ensures.bad (ap (λ (f : FormatFault). Err f) c.in-Err-Bad.field-0-is) message.format.pieces (format_is_spelled c.args.line.now (message_line_fields c.in-Some.ensures.some.0 c.in-Some.parts) c.in-Some.ensures.some.2 id message spells)

pub returns-clause-found : goal.returns-clause-found
returns-clause-found c =
    let id = c.in-Some.ensures.some in
    let parts = message_line_fields id.0 c.in-Some.parts in (
      id.0,
      id.1,
      message_spelled c.args.line.now parts _ id.2 (
          ap (λ (file : List ℕ). made parts.id parts.severity parts.number file c.in-Ok.format.bytes) c.in-Ok-to_bytes.ensures
          ∙ ap (made parts.id parts.severity parts.number parts.file) c.in-Ok.ensures.found.0
          ) (subst (λ (l : List ℕ). Spells l c.in-Ok.format.pieces) (sym c.in-Ok.ensures.found.0) c.in-Ok.ensures.found.1),
    )
