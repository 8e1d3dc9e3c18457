-- The findings of a source.
use Rattle.std.proofs.Common.{◌≡◌, ℕ, zero, suc, Bool, true, false, List, [], ◌∷◌, ◌++◌, drop, Option, Some, None, refl, sym, subst, ap, ◌∙◌}
use Rattle.std.specs.Prelude.{MatchBool}
use Rattle.std.specs.List.{AllByRecursion}
use Rattle.log_dictionary.specs.declared.message.Message.{Message}
use Rattle.source_tokens.specs.declared.token.Token.{Token}
use Rattle.source_scan.specs.declared.found.Found.{Found}
use Rattle.source_scan.specs.declared.found.Found.TheVariants as found
use Rattle.source_scan.specs.Arguments.{closing_from}
use Rattle.source_scan.specs.Readings.{IsFileName}
use Rattle.source_scan.specs.Statements.{SourceText, begins, IsFoundAt, own_length, Finds, Statements}
use Rattle.log_dictionary.proofs.lemmas.SameMessages.{same_message}
use Rattle.source_scan.specs.declared.found.Statement.{Statement}
use Rattle.source_scan.specs.declared.found.BadStatement.{BadStatement}
use Rattle.preprocessor.specs.declared.numbering.Numbering.{Numbering}
use Rattle.preprocessor.specs.Findings.{Finding, IsMessageOf, bad_refusal, IsFinding, IsNamed, AreFindings}
use Rattle.preprocessor.specs.Numbering.{HoldsFindings}

-- ---- names

named_at : (source : SourceText) (token : Token) (inside : List Token) (closing : Option ℕ) (one : Found) → IsFoundAt source token inside closing one → IsNamed one
named_at source token inside None (found.Statement statement) is = absurd is
named_at source token inside None (found.Bad bad) is = tt
named_at source token inside (Some place) (found.Statement statement) is = subst IsFileName (sym is.file) is.named
named_at source token inside (Some place) (found.Bad bad) is = tt

all_named : (source : SourceText) (own : ℕ) (tokens : List Token) (list : List Found) → Finds source own tokens list → AllByRecursion IsNamed list
unfolding Finds
all_named source own [] list is = subst (AllByRecursion IsNamed) (sym is) tt
all_named source (suc own) (token ∷ tokens) list is = all_named source own tokens list is
all_named source zero (token ∷ tokens) list is = by_start (begins source.bytes token tokens) (λ own others later. all_named source own tokens others later) is
  where
    by_start : (b : Bool) → ((own : ℕ) (others : List Found) → Finds source own tokens others → AllByRecursion IsNamed others)
        → MatchBool b ((one : Found) × (others : List Found) × (list ≡ one ∷ others) × IsFoundAt source token (drop 1 tokens) (closing_from 0 (drop 1 tokens)) one × Finds source (own_length tokens) tokens others) (Finds source zero tokens list)
        → AllByRecursion IsNamed list
    by_start true named (one, others, list_is, at, later) =
        subst (AllByRecursion IsNamed) (sym list_is) (named_at source token (drop 1 tokens) (closing_from 0 (drop 1 tokens)) one at, named (own_length tokens) others later)
    by_start false named later = named zero list later

-- the statements that a scan finds have names that messages may have
pub statements_are_named : (file source : List ℕ) (list : List Found) → Statements file source list → AllByRecursion IsNamed list
statements_are_named file source list statements = all_named _ 0 _ list statements.finds

-- ---- findings

has_finding : (one : Found) → IsNamed one → (finding : Finding) × IsFinding one finding
has_finding (found.Statement statement) named =
    (Finding.stated (record { file = statement.file; line = statement.line; severity = statement.severity; format = statement.format; file_length = named }), record { file = refl; line = refl; severity = refl; format = refl })
has_finding (found.Bad bad) named = (Finding.refused _, refl)

pub have_findings : (list : List Found) → AllByRecursion IsNamed list → (findings : List Finding) × AreFindings list findings
have_findings [] named = ([], refl)
have_findings (one ∷ list) named =
    let first = has_finding one named.0 in
    let others = have_findings list named.1 in
    (first.0 ∷ others.0, (first.0, others.0, refl, first.1, others.1))

-- the last of what was found has the last finding
pub findings_split : (list : List Found) (one : Found) (findings : List Finding) → AreFindings (list ++ one ∷ []) findings
    → (front : List Finding) × (last : Finding) × (findings ≡ front ++ last ∷ []) × AreFindings list front × IsFinding one last
findings_split [] one findings (first, others, joined, is, none) = ([], first, joined ∙ ap (λ (l : List Finding). first ∷ l) none, refl, is)
findings_split (x ∷ list) one findings (first, others, joined, is, later) =
    let split = findings_split list one others later in
    (first ∷ split.0, split.1, joined ∙ ap (λ (l : List Finding). first ∷ l) split.2, (first, split.0, refl, is, split.3), split.4)

-- a statement has one message
pub message_once : (statement : Statement) (a b : Message) → IsMessageOf statement a → IsMessageOf statement b → a ≡ b
message_once statement a b is also = same_message a b (is.file ∙ sym also.file) (is.line ∙ sym also.line) (is.severity ∙ sym also.severity) (is.format ∙ sym also.format)

-- what was found has one finding
pub finding_once : (one : Found) (a b : Finding) → IsFinding one a → IsFinding one b → a ≡ b
finding_once (found.Statement statement) (Finding.stated a) (Finding.stated b) is also = ap Finding.stated (message_once statement a b is also)
finding_once (found.Statement statement) (Finding.stated a) (Finding.refused b) is also = absurd also
finding_once (found.Statement statement) (Finding.refused a) b is also = absurd is
finding_once (found.Bad bad) (Finding.stated a) b is also = absurd is
finding_once (found.Bad bad) (Finding.refused a) (Finding.stated b) is also = absurd also
finding_once (found.Bad bad) (Finding.refused a) (Finding.refused b) is also = ap Finding.refused (is ∙ sym also)

-- ---- one finding more

pub statement_held : (one : Found) (statement : Statement) (message : Message) (now next : Numbering) → one ≡ found.Statement statement → IsMessageOf statement message → ((before : List Finding) → HoldsFindings before now → HoldsFindings (before ++ Finding.stated message ∷ []) next)
    → (before : List Finding) (finding : Finding) → IsFinding one finding → HoldsFindings before now → HoldsFindings (before ++ finding ∷ []) next
statement_held one statement message now next one_is is holds before finding also held =
    subst (λ (last : Finding). HoldsFindings (before ++ last ∷ []) next) (finding_once (found.Statement statement) (Finding.stated message) finding is (subst (λ (f : Found). IsFinding f finding) one_is also)) (holds before held)

pub bad_held : (one : Found) (bad : BadStatement) (now next : Numbering) → one ≡ found.Bad bad → ((before : List Finding) → HoldsFindings before now → HoldsFindings (before ++ Finding.refused (bad_refusal bad) ∷ []) next)
    → (before : List Finding) (finding : Finding) → IsFinding one finding → HoldsFindings before now → HoldsFindings (before ++ finding ∷ []) next
bad_held one bad now next one_is holds before finding is held =
    subst (λ (last : Finding). HoldsFindings (before ++ last ∷ []) next) (finding_once (found.Bad bad) (Finding.refused (bad_refusal bad)) finding refl (subst (λ (f : Found). IsFinding f finding) one_is is)) (holds before held)
