-- A source has one list of statements.
use Rattle.std.proofs.Common.{◌≡◌, ℕ, zero, suc, ◌+◌, Bool, true, false, List, [], ◌∷◌, Option, Some, None, refl, sym, subst, ap, ◌∙◌, arith, drop, length}
use Rattle.std.specs.Prelude.{MatchBool}
use Rattle.std.proofs.lemmas.Option.{none-some, same_Some}
use Rattle.printf_grammar.specs.declared.piece.Piece.{Piece}
use Rattle.printf_grammar.specs.declared.fault.FormatCause.{FormatCause}
use Rattle.printf_grammar.specs.Spelling.{Spells}
use Rattle.printf_grammar.specs.Breaks.{FormatBreak}
use Rattle.printf_grammar.specs.Types.{Types}
use Rattle.printf_grammar.specs.Pieces.{Parsed}
use Rattle.printf_grammar.proofs.lemmas.Unique.{spells_once, breaks_once, never_both}
use Rattle.log_dictionary.specs.declared.severity.Severity.{Severity}
use Rattle.log_dictionary.proofs.lemmas.SameMessages.{same_names}
use Rattle.source_tokens.specs.declared.token.Token.{Token}
use Rattle.source_tokens.specs.Directives.{Parts}
use Rattle.source_tokens.proofs.lemmas.Unique.{tokens_once}
use Rattle.source_tokens.proofs.lemmas.UniqueParts.{parts_once}
use Rattle.source_scan.specs.declared.found.Found.{Found}
use Rattle.source_scan.specs.declared.found.Found.TheVariants as found
use Rattle.source_scan.specs.declared.found.StatementCause.{StatementCause}
use Rattle.source_scan.specs.declared.found.StatementCause.TheVariants as causes
use Rattle.source_scan.specs.declared.found.Statement.{Statement}
use Rattle.source_scan.specs.declared.found.BadStatement.{BadStatement}
use Rattle.source_scan.specs.declared.line_change.LineChange.{LineChange}
use Rattle.source_scan.specs.declared.position.PlacedChange.{PlacedChange}
use Rattle.source_scan.specs.Texts.{unspliced, bytes_of, significant}
use Rattle.source_scan.specs.Severities.{NamesSeverity}
use Rattle.source_scan.specs.LineChanges.{ReadsDirective, directive_change}
use Rattle.source_scan.specs.Positions.{has_next_line, with_change, Changes}
use Rattle.source_scan.specs.Readings.{Parted, HasFormat, HasCause, IsGood, IsRead}
use Rattle.source_scan.specs.Arguments.{closing_from}
use Rattle.source_scan.specs.Statements.{SourceText, begins, reading_of, IsUnclosedFound, IsFoundIn, IsFoundAt, own_length, Finds, Statements}

-- what has one answer where a test holds, and one where it doesn't, has one answer
match_once : {A : Type 0} (b : Bool) (P Q : A → Type 0) (x y : A) → (P x → P y → x ≡ y) → (Q x → Q y → x ≡ y) → MatchBool b (P x) (Q x) → MatchBool b (P y) (Q y) → x ≡ y
match_once true P Q x y holds fails here there = holds here there
match_once false P Q x y holds fails here there = fails here there

-- ---- line directives

reads_once : (directive : List ℕ) (change other : Option LineChange) → ReadsDirective directive change → ReadsDirective directive other → change ≡ other
reads_once directive change other here there =
    let tokens : here.tokens ≡ there.tokens = tokens_once directive here.tokens there.tokens here.tokens_are there.tokens_are in
    here.change_is ∙ ap (λ (list : List Token). directive_change directive (drop 1 (significant list))) tokens ∙ sym there.change_is

changes_once : (source : List ℕ) (parts : List Token) (changes others : List PlacedChange) → Changes source parts changes → Changes source parts others → changes ≡ others
unfolding Changes
changes_once source [] changes others here there = here ∙ sym there
changes_once source (part ∷ parts) changes others here there =
    let From : List PlacedChange → Type 0 =
    λ (list : List PlacedChange). (change : Option LineChange) × (more : List PlacedChange) × ReadsDirective (bytes_of source part) change × Changes source parts more × (list ≡ with_change (part.end + 1) change more) in
    let both : From changes → From others → changes ≡ others =
    λ p q.
    let change : p.0 ≡ q.0 = reads_once (bytes_of source part) p.0 q.0 p.2 q.2 in
    let more : p.1 ≡ q.1 = changes_once source parts p.1 q.1 p.3 q.3 in
    p.4 ∙ ap (λ (one : Option LineChange). with_change (part.end + 1) one p.1) change ∙ ap (λ (list : List PlacedChange). with_change (part.end + 1) q.0 list) more ∙ sym q.4 in
    match_once (has_next_line source part) From (Changes source parts) changes others both (changes_once source parts changes others) here there

-- ---- one statement

severity_once : (source : List ℕ) (tokens : List Token) (severity other : Severity) → NamesSeverity source tokens severity → NamesSeverity source tokens other → severity ≡ other
severity_once source tokens severity other here there =
    let name : here.0 ≡ there.0 = same_Some here.0 there.0 (sym here.1 ∙ there.1) in
    same_names severity other (sym here.2 ∙ ap (λ (token : Token). unspliced (bytes_of source token)) name ∙ there.2)

-- the bytes of a format
format_once : (source : List ℕ) (reading : Parted) (bytes other : List ℕ) → HasFormat source reading bytes → HasFormat source reading other → bytes ≡ other
format_once source reading bytes other here there = same_Some bytes other (sym here ∙ there)

-- a format that breaks is none
never_broken : (source : List ℕ) (reading : Parted) (bytes other : List ℕ) (pieces : List Piece) (cause : FormatCause) (place : ℕ) → HasFormat source reading bytes → Spells bytes pieces → HasFormat source reading other → FormatBreak other cause place → ⊥
never_broken source reading bytes other pieces cause place here spells there breaks =
    let same : other ≡ bytes = format_once source reading other bytes there here in
    never_both bytes pieces cause place spells (subst (λ (list : List ℕ). FormatBreak list cause place) same breaks)

same_break : (cause other : FormatCause) (place at : ℕ) → cause ≡ other → place ≡ at → causes.Format cause place ≡ causes.Format other at
same_break cause other place at c p = cc

cause_once : (source : List ℕ) (reading : Parted) (cause other : StatementCause) → HasCause source reading cause → HasCause source reading other → cause ≡ other
cause_once source reading causes.Unclosed other here there = absurd here
cause_once source reading cause causes.Unclosed here there = absurd there
cause_once source reading causes.FileName causes.FileName here there = refl
cause_once source reading causes.FileName causes.Severity here there = absurd (here there.0)
cause_once source reading causes.FileName causes.FormatNotLiteral here there = absurd (here there.0)
cause_once source reading causes.FileName (causes.Format cause place) here there = absurd (here there.0)
cause_once source reading causes.FileName causes.TooFew here there = absurd (here there.0)
cause_once source reading causes.Severity causes.FileName here there = absurd (there here.0)
cause_once source reading causes.Severity causes.Severity here there = refl
cause_once source reading causes.Severity causes.FormatNotLiteral here there = absurd (here.1 there.1)
cause_once source reading causes.Severity (causes.Format cause place) here there = absurd (here.1 there.1)
cause_once source reading causes.Severity causes.TooFew here there = absurd (here.1 there.1)
cause_once source reading causes.FormatNotLiteral causes.FileName here there = absurd (there here.0)
cause_once source reading causes.FormatNotLiteral causes.Severity here there = absurd (there.1 here.1)
cause_once source reading causes.FormatNotLiteral causes.FormatNotLiteral here there = refl
cause_once source reading causes.FormatNotLiteral (causes.Format cause place) here there = absurd (none-some there.2.0 (sym here.2 ∙ there.2.1))
cause_once source reading causes.FormatNotLiteral causes.TooFew here there = absurd (none-some there.2.bytes (sym here.2 ∙ there.2.has))
cause_once source reading (causes.Format cause place) causes.FileName here there = absurd (there here.0)
cause_once source reading (causes.Format cause place) causes.Severity here there = absurd (there.1 here.1)
cause_once source reading (causes.Format cause place) causes.FormatNotLiteral here there = absurd (none-some here.2.0 (sym there.2 ∙ here.2.1))
cause_once source reading (causes.Format cause place) (causes.Format other at) here there =
    let bytes : there.2.0 ≡ here.2.0 = format_once source reading there.2.0 here.2.0 there.2.1 here.2.1 in
    let same = breaks_once here.2.0 cause other place at here.2.2 (subst (λ (list : List ℕ). FormatBreak list other at) bytes there.2.2) in
    same_break cause other place at same.0 same.1
cause_once source reading (causes.Format cause place) causes.TooFew here there = absurd (never_broken source reading there.2.bytes here.2.0 there.2.pieces cause place there.2.has there.2.spells here.2.1 here.2.2)
cause_once source reading causes.TooFew causes.FileName here there = absurd (there here.0)
cause_once source reading causes.TooFew causes.Severity here there = absurd (there.1 here.1)
cause_once source reading causes.TooFew causes.FormatNotLiteral here there = absurd (none-some here.2.bytes (sym there.2 ∙ here.2.has))
cause_once source reading causes.TooFew (causes.Format cause place) here there = absurd (never_broken source reading here.2.bytes there.2.0 here.2.pieces cause place here.2.has here.2.spells there.2.1 there.2.2)
cause_once source reading causes.TooFew causes.TooFew here there = refl

-- a good statement has no cause
never_bad : (source : List ℕ) (reading : Parted) (statement : Statement) (cause : StatementCause) → IsGood source reading statement → HasCause source reading cause → ⊥
never_bad source reading statement causes.Unclosed good has = has
never_bad source reading statement causes.FileName good has = has good.named
never_bad source reading statement causes.Severity good has = has.1 (statement.severity, good.severity)
never_bad source reading statement causes.FormatNotLiteral good has = none-some statement.format.bytes (sym has.2 ∙ good.format)
never_bad source reading statement (causes.Format cause place) good has = never_broken source reading statement.format.bytes has.2.0 statement.format.pieces cause place good.format good.spells has.2.1 has.2.2
never_bad source reading statement causes.TooFew good has =
    let few = has.2 in
    let bytes : few.bytes ≡ statement.format.bytes = format_once source reading few.bytes statement.format.bytes few.has good.format in
    let spells : Spells statement.format.bytes few.pieces = subst (λ (list : List ℕ). Spells list few.pieces) bytes few.spells in
    let pieces : few.pieces ≡ statement.format.pieces = spells_once statement.format.bytes few.pieces statement.format.pieces spells good.spells in
    omega (arith, few.few, good.enough, ap (λ (list : List Piece). length (Types list)) pieces)

format_same : (bytes other : List ℕ) (pieces others : List Piece) → bytes ≡ other → pieces ≡ others
    → (let a : Parsed = record { bytes = bytes; pieces = pieces } in let b : Parsed = record { bytes = other; pieces = others } in a ≡ b)
format_same bytes other pieces others b p = cc

bad_same : (file other : List ℕ) (line number : ℕ) (cause because : StatementCause) → file ≡ other → line ≡ number → cause ≡ because
    → (let a : BadStatement = record { file = file; line = line; cause = cause } in let b : BadStatement = record { file = other; line = number; cause = because } in a ≡ b)
bad_same file other line number cause because f l c = cc

statement_same : (file name : List ℕ) (line number : ℕ) (severity : Severity) (format : Parsed) (args count start from head comma end to : ℕ) → file ≡ name → line ≡ number → args ≡ count → start ≡ from → head ≡ comma → end ≡ to
    → (let a : Statement = record { file = file; line = line; severity = severity; format = format; args = args; start = start; head = head; end = end } in
    let b : Statement = record { file = name; line = number; severity = severity; format = format; args = count; start = from; head = comma; end = to } in a ≡ b)
statement_same file name line number severity format args count start from head comma end to f l a s h e = cc

-- the statement that stands there, with this severity and format
said : Parted → Severity → Parsed → Statement
said reading severity format = record {
  file = reading.file;
  line = reading.line;
  severity = severity;
  format = format;
  args = reading.args;
  start = reading.start;
  head = reading.head;
  end = reading.end;
}

said_is : (source : List ℕ) (reading : Parted) (statement : Statement) → IsGood source reading statement → statement ≡ said reading statement.severity statement.format
unfolding said
said_is source reading statement good = statement_same statement.file reading.file statement.line reading.line statement.severity statement.format statement.args reading.args statement.start reading.start statement.head reading.head statement.end reading.end good.file good.line good.args good.start good.head good.end

good_once : (source : List ℕ) (reading : Parted) (statement other : Statement) → IsGood source reading statement → IsGood source reading other → statement ≡ other
good_once source reading statement other here there =
    let bytes : other.format.bytes ≡ statement.format.bytes = format_once source reading other.format.bytes statement.format.bytes there.format here.format in
    let spells : Spells statement.format.bytes other.format.pieces = subst (λ (list : List ℕ). Spells list other.format.pieces) bytes there.spells in
    let pieces : statement.format.pieces ≡ other.format.pieces = spells_once statement.format.bytes statement.format.pieces other.format.pieces here.spells spells in
    let severity : statement.severity ≡ other.severity = severity_once source reading.severity statement.severity other.severity here.severity there.severity in
    let format : statement.format ≡ other.format = format_same statement.format.bytes other.format.bytes statement.format.pieces other.format.pieces (sym bytes) pieces in
    said_is source reading statement here ∙ ap (λ (s : Severity). said reading s statement.format) severity ∙ ap (said reading other.severity) format
    ∙ sym (said_is source reading other there)

read_once : (source : List ℕ) (reading : Parted) (one other : Found) → IsRead source reading one → IsRead source reading other → one ≡ other
read_once source reading (found.Statement statement) (found.Statement other) here there = ap (λ (s : Statement). found.Statement s) (good_once source reading statement other here there)
read_once source reading (found.Statement statement) (found.Bad bad) here there = absurd (never_bad source reading statement bad.cause here there.1)
read_once source reading (found.Bad bad) (found.Statement statement) here there = absurd (never_bad source reading statement bad.cause there here.1)
read_once source reading (found.Bad bad) (found.Bad other) here there =
    ap (λ (b : BadStatement). found.Bad b) (bad_same bad.file other.file bad.line other.line bad.cause other.cause (here.0.file ∙ sym there.0.file) (here.0.line ∙ sym there.0.line) (cause_once source reading bad.cause other.cause here.1 there.1))

unclosed_once : (name : List ℕ) (line : ℕ) (one other : Found) → IsUnclosedFound name line one → IsUnclosedFound name line other → one ≡ other
unclosed_once name line (found.Statement statement) other here there = absurd here
unclosed_once name line (found.Bad bad) (found.Statement statement) here there = absurd there
unclosed_once name line (found.Bad bad) (found.Bad other) here there =
    ap (λ (b : BadStatement). found.Bad b) (bad_same bad.file other.file bad.line other.line bad.cause other.cause (here.file ∙ sym there.file) (here.line_is ∙ sym there.line_is) (here.cause ∙ sym there.cause))

found_once : (source name : List ℕ) (line : ℕ) (token : Token) (inside : List Token) (closing : Option ℕ) (one other : Found) → IsFoundIn source name line token inside closing one → IsFoundIn source name line token inside closing other → one ≡ other
found_once source name line token inside None one other here there = unclosed_once name line one other here there
found_once source name line token inside (Some place) one other here there = read_once source (reading_of name line token inside place) one other here there

-- ---- all statements

finds_once : (source : SourceText) (own : ℕ) (tokens : List Token) (found others : List Found) → Finds source own tokens found → Finds source own tokens others → found ≡ others
unfolding Finds
finds_once source own [] found others here there = here ∙ sym there
finds_once source (suc own) (token ∷ tokens) found others here there = finds_once source own tokens found others here there
finds_once source zero (token ∷ tokens) found others here there =
    let From : List Found → Type 0 =
    λ (list : List Found). (one : Found) × (more : List Found) × (list ≡ one ∷ more) × IsFoundAt source token (drop 1 tokens) (closing_from 0 (drop 1 tokens)) one × Finds source (own_length tokens) tokens more in
    let both : From found → From others → found ≡ others =
    λ p q.
    let first : p.0 ≡ q.0 = found_once source.bytes _ _ token (drop 1 tokens) (closing_from 0 (drop 1 tokens)) p.0 q.0 p.3 q.3 in
    let rest : p.1 ≡ q.1 = finds_once source (own_length tokens) tokens p.1 q.1 p.4 q.4 in
    p.2 ∙ (λ i. first i ∷ rest i) ∙ sym q.2 in
    match_once (begins source.bytes token tokens) From (Finds source zero tokens) found others both (finds_once source zero tokens found others) here there

-- the statements of a source are those among its significant parts, under its line directives
pub statements_find : (file source : List ℕ) (parts : List Token) (changes : List PlacedChange) (found : List Found) → Parts source parts → Changes source parts changes → Statements file source found
    → Finds (record { file = file; bytes = source; changes = changes }) 0 (significant parts) found
statements_find file source parts changes found are changes_are is =
    let same : is.parts ≡ parts = parts_once source is.parts parts is.parts_are are in
    let moved : Changes source parts is.changes = subst (λ (list : List Token). Changes source list is.changes) same is.changes_are in
    let changed : is.changes ≡ changes = changes_once source parts is.changes changes moved changes_are in
    let with_parts : Finds (record { file = file; bytes = source; changes = is.changes }) 0 (significant parts) found =
    subst (λ (list : List Token). Finds (record { file = file; bytes = source; changes = is.changes }) 0 (significant list) found) same is.finds in
    subst (λ (list : List PlacedChange). Finds (record { file = file; bytes = source; changes = list }) 0 (significant parts) found) changed with_parts

pub statements_once : (file source : List ℕ) (found others : List Found) → Statements file source found → Statements file source others → found ≡ others
statements_once file source found others here there =
    finds_once (record { file = file; bytes = source; changes = here.changes }) 0 (significant here.parts) found others here.finds (statements_find file source here.parts here.changes others here.parts_are here.changes_are there)
