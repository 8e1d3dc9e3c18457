use Rattle.std.proofs.Common.{◌≡◌, ℕ, List, length, Some, sym, ap, ◌∙◌, arith}
use Rattle.std.specs.Option.{option_map}
use Rattle.std.proofs.lemmas.Bool.{false≢true}
use Rattle.log_dictionary.specs.Numbers.{natural_of, natural_read}
use Rattle.log_dictionary.specs.Severities.{severity_name}
use Rattle.log_dictionary.specs.MessageLines.{SpelledParts, spelled_parts, MessageLineFields}
use Rattle.log_dictionary.proofs.lemmas.NumberLaws.{mapped_is}
use Rattle.log_dictionary.proofs.LineParts.{parts_at-spelled, same_spelling, spells_parts}
use Rattle.log_dictionary.proofs.message_line.message_line_of.Goals as goal

abbrev made : List ℕ → List ℕ → List ℕ → List ℕ → List ℕ → SpelledParts
made id severity number file format = record { id = id; severity = severity; number = number; file = file; format = format }

pub returns-in_err-fields-clause-none : goal.returns-in_err-fields-clause-none
returns-in_err-fields-clause-none c = rw c.from_residual.ensures (λ found. cc (parts_at-spelled _ found.0 found.1, c.in_err-fields.ensures))

pub returns-in_err-id-clause-none : goal.returns-in_err-id-clause-none
returns-in_err-id-clause-none c = rw c.from_residual-in_err-id.ensures (λ found.
    let same = same_spelling c.args.line.now (spelled_parts c.in_ok-fields.fields) found.0 c.in_ok-fields.ensures found.1 in
    let read : option_map natural_read (natural_of c.in_ok-fields.fields.id.now) ≡ option_map natural_read (Some found.0.id) = ap (option_map natural_read) (ap natural_of (ap (λ (p : SpelledParts). p.id) same) ∙ found.1.numeral) in
    cc (read, c.in_err-id.ensures))

pub returns-in_err-severity-clause-none : goal.returns-in_err-severity-clause-none
returns-in_err-severity-clause-none c = rw c.from_residual-in_err-severity.ensures (λ found.
    let same = same_spelling c.args.line.now (spelled_parts c.in_ok-fields.fields) found.0 c.in_ok-fields.ensures found.1 in
    c.in_err-severity.ensures.none found.0.severity (ap (λ (p : SpelledParts). p.severity) same))

pub returns-in_err-line-clause-none : goal.returns-in_err-line-clause-none
returns-in_err-line-clause-none c = rw c.from_residual-in_err-line.ensures (λ found.
    let same = same_spelling c.args.line.now (spelled_parts c.in_ok-fields.fields) found.0 c.in_ok-fields.ensures found.1 in
    c.in_err-line.ensures.none found.0.number found.1.number_fits (ap (λ (p : SpelledParts). p.number) same))

pub returns-then-not-are_within_limits-clause-none : goal.returns-then-not-are_within_limits-clause-none
returns-then-not-are_within_limits-clause-none c = λ found.
    let same = same_spelling c.args.line.now (spelled_parts c.in_ok-fields.fields) found.0 c.in_ok-fields.ensures found.1 in
    let file : length c.in_ok-fields.fields.file ≡ length found.0.file = ap (λ (p : SpelledParts). length p.file) same in
    let format : length c.in_ok-fields.fields.format ≡ length found.0.format = ap (λ (p : SpelledParts). length p.format) same in
    let within = c.are_within_limits.ensures.1 (omega (arith, c.len.ensures, found.1.named), omega (arith, c.len.ensures, found.1.short_name), omega (arith, c.len-2.ensures, found.1.short_format)) in
    absurd (false≢true (sym c.if-not-are_within_limits.true ∙ within))

pub returns-clause-some : goal.returns-clause-some
returns-clause-some c =
    let fields = c.in_ok-fields.fields in
    let id = mapped_is natural_read (natural_of fields.id.now) c.in_ok-id.id (sym c.in_ok-id.ensures) in
    let parts : MessageLineFields = record { id = id.0; severity = c.in_ok-severity.severity; number = c.in_ok-line.line; file = fields.file; format = fields.format } in
    let within = c.are_within_limits.ensures.0 c.if-not-are_within_limits.false in (
      id.0,
      id.2,
      spells_parts c.args.line.now (spelled_parts fields) fields.id.now parts c.in_ok-fields.ensures
          (ap (λ (severity : List ℕ). made fields.id.now severity fields.number.now parts.file parts.format) c.in_ok-severity.ensures.some
          ∙ ap (λ (number : List ℕ). made fields.id.now (severity_name parts.severity) number parts.file parts.format) c.in_ok-line.ensures.some)
          id.1 (omega arith) (omega (arith, c.len.ensures, within.0)) (omega (arith, c.len.ensures, within.1)) (omega (arith, c.len-2.ensures, within.2)),
    )
