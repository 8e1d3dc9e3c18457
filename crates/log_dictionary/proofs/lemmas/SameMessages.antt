-- Messages with the same parts are the same.
use Rattle.std.proofs.Common.{◌≡◌, ℕ, ◌≤◌, List, length, get_or, refl, sym, ap, subst, ◌∙◌, cond, eqb}
use denote.Struct.Props.{props}
use Rattle.printf_grammar.specs.Pieces.{Parsed}
use Rattle.log_dictionary.specs.declared.severity.Severity.{Severity}
use Rattle.log_dictionary.specs.declared.severity.Severity.TheVariants.{Error, Warning, Notice, Debug}
use Rattle.log_dictionary.specs.declared.message.Message.{Message}
use Rattle.log_dictionary.specs.Severities.{severity_name, severity_number}

-- ---- severities

-- the severity with this number
abbrev severity_of_number : ℕ → Severity
severity_of_number n = cond (eqb n 1) Error (cond (eqb n 2) Warning (cond (eqb n 3) Notice Debug))

severity_of_number-number : (severity : Severity) → severity_of_number (severity_number severity) ≡ severity
severity_of_number-number Error = refl
severity_of_number-number Warning = refl
severity_of_number-number Notice = refl
severity_of_number-number Debug = refl

pub same_severities : (a b : Severity) → severity_number a ≡ severity_number b → a ≡ b
same_severities a b e = sym (severity_of_number-number a) ∙ ap severity_of_number e ∙ severity_of_number-number b

-- the severity whose name this is
abbrev severity_of_name : List ℕ → Severity
severity_of_name name = cond (eqb (get_or name 0 0) 69) Error (cond (eqb (get_or name 0 0) 87) Warning (cond (eqb (get_or name 0 0) 78) Notice Debug))

severity_of_name-name : (severity : Severity) → severity_of_name (severity_name severity) ≡ severity
severity_of_name-name Error = refl
severity_of_name-name Warning = refl
severity_of_name-name Notice = refl
severity_of_name-name Debug = refl

pub same_names : (a b : Severity) → severity_name a ≡ severity_name b → a ≡ b
same_names a b e = sym (severity_of_name-name a) ∙ ap severity_of_name e ∙ severity_of_name-name b

-- ---- messages

abbrev IsName : List ℕ → Type 0
IsName file = (1 ≤ length file) × (length file ≤ 255)

IsName-prop : (file : List ℕ) → IsProp (IsName file)
IsName-prop file = hlevel props

abbrev made : (file : List ℕ) (line : ℕ) (severity : Severity) (format : Parsed) → IsName file → Message
made file line severity format name = record { file = file; line = line; severity = severity; format = format; file_length = name }

made_same : (file other : List ℕ) (line : ℕ) (severity : Severity) (format : Parsed) → file ≡ other → (name : IsName file) (other_name : IsName other) → made file line severity format name ≡ made other line severity format other_name
made_same file other line severity format e name =
    subst (λ (f : List ℕ). (n : IsName f) → made file line severity format name ≡ made f line severity format n) e (λ n. ap (made file line severity format) (IsName-prop file name n))

-- messages with the same parts are the same
pub same_message : (a b : Message) → a.file ≡ b.file → a.line ≡ b.line → a.severity ≡ b.severity → a.format ≡ b.format → a ≡ b
same_message a b file line severity format =
    made_same a.file b.file a.line a.severity a.format file a.file_length b.file_length
    ∙ ap (λ (n : ℕ). made b.file n a.severity a.format b.file_length) line
    ∙ ap (λ (s : Severity). made b.file b.line s a.format b.file_length) severity
    ∙ ap (λ (f : Parsed). made b.file b.line b.severity f b.file_length) format
