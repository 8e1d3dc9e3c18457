-- Every line spells an id and a message, or none.
use Rattle.std.proofs.Common.{◌≡◌, ◌≢◌, ℕ, ◌<◌, ◌≤◌, ◌^◌, Bool, true, false, List, length, Option, Some, None, refl, sym, ap, ◌∙◌, inl, inr, ◌⊎◌, arith}
use Rattle.std.specs.Prelude.{decimal, nat_eq}
use Rattle.std.specs.Cmp.Lexicographic.{pointwise, bytes_decides}
use Rattle.std.proofs.lemmas.Bool.{false≢true, cases_lt}
use Rattle.std.proofs.lemmas.Option.{same_Some}
use Rattle.printf_grammar.specs.declared.limits.TheConstants.{MAX_FORMAT}
use Rattle.printf_grammar.proofs.lemmas.Total.{one_holds}
use Rattle.printf_grammar.proofs.lemmas.Unique.{never_both}
use Rattle.log_dictionary.specs.declared.message.TheConstants.{MAX_FILE_NAME}
use Rattle.log_dictionary.specs.declared.message.Message.{Message}
use Rattle.log_dictionary.specs.declared.severity.Severity.{Severity}
use Rattle.log_dictionary.specs.declared.severity.Severity.TheVariants.{Error, Warning, Notice, Debug}
use Rattle.log_dictionary.specs.Severities.{severity_name}
use Rattle.log_dictionary.specs.Numbers.{natural_of}
use Rattle.log_dictionary.specs.Messages.{SpellsMessage}
use Rattle.log_dictionary.specs.MessageLines.{SpelledParts, parts_at, MessageLineFields, SpellsParts, IsMessageLine}
use Rattle.log_dictionary.proofs.lemmas.NumberLaws.{natural_decimal, decimal_natural}
use Rattle.log_dictionary.proofs.LineParts.{spelling_of, parts_at-spelled, same_spelling, spells_parts}
use Rattle.log_dictionary.proofs.lemmas.LineMessages.{parts_of, parts_spelled, message_spelled, format_is_spelled}

-- a field spells a number, or none
natural_or_not : (field : List ℕ) → ((n : ℕ) × (natural_of field ≡ Some n)) ⊎ ((n : ℕ) → natural_of field ≢ Some n)
natural_or_not field = by (natural_of field) refl
  where
    by : (o : Option ℕ) → natural_of field ≡ o → ((n : ℕ) × (natural_of field ≡ Some n)) ⊎ ((n : ℕ) → natural_of field ≢ Some n)
    by None e = inr (λ n is. cc)
    by (Some n) e = inl (n, e)

-- a field spells one number below the limit, or none
number_or_not : (field : List ℕ) (limit : ℕ) → limit ≤ 2 ^ 64 → ((n : ℕ) × (n < limit) × (field ≡ decimal n)) ⊎ ((n : ℕ) → n < limit → field ≢ decimal n)
number_or_not field limit most = by (natural_of field) refl
  where
    by : (o : Option ℕ) → natural_of field ≡ o → ((n : ℕ) × (n < limit) × (field ≡ decimal n)) ⊎ ((n : ℕ) → n < limit → field ≢ decimal n)
    by None e = inr (λ n small is. let found = decimal_natural field n (omega arith) is in cc)
    by (Some n) e = elim (cases_lt n limit) [
      | inl small ↦ inl (n, small, natural_decimal field n (omega arith) e)
      | inr large ↦ inr (λ m small is. let same = same_Some n m (sym e ∙ decimal_natural field m (omega arith) is) in omega arith)
    ]

-- a field is a severity's name, or isn't
is_name : (name : List ℕ) (severity : Severity) → (name ≡ severity_name severity) ⊎ (name ≢ severity_name severity)
is_name name severity = by (pointwise nat_eq name (severity_name severity)) refl
  where
    by : (b : Bool) → pointwise nat_eq name (severity_name severity) ≡ b → (name ≡ severity_name severity) ⊎ (name ≢ severity_name severity)
    by true e = inl ((bytes_decides name (severity_name severity)).0 e)
    by false e = inr (λ same. false≢true (sym e ∙ (bytes_decides name (severity_name severity)).1 same))

none_of : (name : List ℕ) → name ≢ severity_name Error → name ≢ severity_name Warning → name ≢ severity_name Notice → name ≢ severity_name Debug → (severity : Severity) → name ≢ severity_name severity
none_of name error warning notice debug Error = error
none_of name error warning notice debug Warning = warning
none_of name error warning notice debug Notice = notice
none_of name error warning notice debug Debug = debug

pub severity_name_or_not : (name : List ℕ) → ((severity : Severity) × (name ≡ severity_name severity)) ⊎ ((severity : Severity) → name ≢ severity_name severity)
severity_name_or_not name =
    elim (is_name name Error) [
      | inl is ↦ inl (Error, is)
      | inr error ↦ elim (is_name name Warning) [
        | inl is ↦ inl (Warning, is)
        | inr warning ↦ elim (is_name name Notice) [
          | inl is ↦ inl (Notice, is)
          | inr notice ↦ elim (is_name name Debug) [ inl is ↦ inl (Debug, is) | inr debug ↦ inr (none_of name error warning notice debug) ]
        ]
      ]
    ]

-- lengths are within the limits, or aren't
abbrev AreWithin : ℕ → ℕ → Type 0
AreWithin file format = (1 ≤ file) × (file ≤ MAX_FILE_NAME) × (format ≤ MAX_FORMAT)

within_or_not : (file format : ℕ) → AreWithin file format ⊎ (AreWithin file format → ⊥)
within_or_not file format =
    elim (cases_lt 0 file) [
      | inr none ↦ inr (λ within. omega (arith, within.0))
      | inl named ↦ elim (cases_lt MAX_FILE_NAME file) [
        | inl long ↦ inr (λ within. omega (arith, within.1))
        | inr short ↦ elim (cases_lt MAX_FORMAT format) [ inl long ↦ inr (λ within. omega (arith, within.2)) | inr fits ↦ inl (omega arith, omega arith, omega arith) ]
      ]
    ]

-- a line is a message line but for what its format spells, or isn't
pub parts_or_not : (line : List ℕ) → IsMessageLine line ⊎ ((parts : MessageLineFields) → ¬ (SpellsParts line parts))
parts_or_not line = by (parts_at line) refl
  where
    made : List ℕ → List ℕ → List ℕ → List ℕ → List ℕ → SpelledParts
    made id severity number file format = record { id = id; severity = severity; number = number; file = file; format = format }

    by : (o : Option SpelledParts) → parts_at line ≡ o → IsMessageLine line ⊎ ((parts : MessageLineFields) → ¬ (SpellsParts line parts))
    by None e = inr (λ parts spells. let found = parts_at-spelled line parts spells in cc)
    by (Some found) e =
        let same = λ (parts : MessageLineFields) (spells : SpellsParts line parts). same_spelling line found parts (sym e) spells in
        elim (natural_or_not found.id) [
          | inr none ↦ inr (λ parts spells. none parts.id (ap natural_of (ap (λ (p : SpelledParts). p.id) (same parts spells)) ∙ spells.numeral))
          | inl id ↦ elim (severity_name_or_not found.severity) [
            | inr none ↦ inr (λ parts spells. none parts.severity (ap (λ (p : SpelledParts). p.severity) (same parts spells)))
            | inl severity ↦ elim (number_or_not found.number (2 ^ 32) (omega arith)) [
              | inr none ↦ inr (λ parts spells. none parts.number spells.number_fits (ap (λ (p : SpelledParts). p.number) (same parts spells)))
              | inl number ↦ elim (within_or_not (length found.file) (length found.format)) [
                | inr beyond ↦ inr (λ parts spells. beyond (
                    let file : length found.file ≡ length parts.file = ap (λ (p : SpelledParts). length p.file) (same parts spells) in
                    let format : length found.format ≡ length parts.format = ap (λ (p : SpelledParts). length p.format) (same parts spells) in
                    (omega (arith, spells.named), omega (arith, spells.short_name), omega (arith, spells.short_format))
                    ))
                | inl within ↦ inl (
                    let parts : MessageLineFields = record { id = id.0; severity = severity.0; number = number.0; file = found.file; format = found.format } in
                    let is : found ≡ spelling_of found.id parts =
                    ap (λ (l : List ℕ). made found.id l found.number found.file found.format) severity.1
                    ∙ ap (λ (l : List ℕ). made found.id (severity_name severity.0) l found.file found.format) number.2 in
                    (parts, spells_parts line found found.id parts (sym e) is id.1 number.1 within.0 within.1 within.2)
                    )
              ]
            ]
          ]
        ]

-- a line spells an id and a message, or none
pub message_or_not : (line : List ℕ) → ((id : ℕ) × (message : Message) × SpellsMessage line id message) ⊎ ((id : ℕ) (message : Message) → ¬ (SpellsMessage line id message))
message_or_not line =
    elim (parts_or_not line) [
      | inr none ↦ inr (λ id message spells. none (parts_of id message) (parts_spelled line id message spells))
      | inl found ↦ elim (one_holds found.0.format) [
        | inr breaks ↦ inr (λ id message spells. never_both found.0.format message.format.pieces breaks.0 breaks.1 (format_is_spelled line found.0 found.1 id message spells) breaks.2)
        | inl formed ↦ inl (
            let parts = found.0 in
            let message : Message = record {
              file = parts.file;
              line = parts.number;
              severity = parts.severity;
              format = record { bytes = parts.format; pieces = formed.0 };
              file_length = (found.1.named, found.1.short_name);
            } in
            (parts.id, message, message_spelled line parts message found.1 refl formed.1)
            )
      ]
    ]
