-- Where the statements of a source stand.
use Rattle.std.specs.Prelude.{◌≡◌, ◌⊎◌, ◌↔◌, ℕ, suc, ◌<◌, ◌≤◌, true, List, [], ◌∷◌, ◌++◌, drop}
use Rattle.std.specs.Prelude.{slice_index_or, MatchOption, IfSome, Option, Some, None}
use Rattle.std.specs.Option.{option_map}
use Rattle.source_tokens.specs.declared.token.Token.{Token}
use Rattle.source_scan.specs.declared.found.Found.{Found}
use Rattle.source_scan.specs.declared.found.Found.TheVariants as found
use Rattle.source_scan.specs.declared.found.StatementCause.TheVariants as causes
use Rattle.source_scan.specs.Arguments.{closing_from}
use Rattle.source_scan.specs.Positions.{line_number_at}
use Rattle.source_scan.specs.Statements.{SourceText, begins, in_force}

-- ---- spans

-- from the place of `NANO_LOG` up to that behind the parenthesis that closes it, if one does
pub record StatementSpan : Type 0 where
  pub start : ℕ
  pub end : Option ℕ

-- a place in a span: its start, or one between its parentheses
abbrev pub IsIn : ℕ → StatementSpan → Type 0
IsIn place span = (span.start ≤ place) × IfSome span.end (λ end. place < end)

abbrev pub IsInOne : ℕ → List StatementSpan → Type 0
IsInOne place [] = ⊥
IsInOne place (span ∷ spans) = IsIn place span ⊎ IsInOne place spans

-- the spans stand one behind the other from a place on, and only the last may have no end
abbrev pub AreDisjoint : ℕ → List StatementSpan → Type 0
AreDisjoint from [] = Unit {0}
AreDisjoint from (span ∷ spans) =
    (from ≤ span.start) × MatchOption span.end (spans ≡ []) (λ end. AreDisjoint end spans)

-- the span of what begins with a token, where these tokens stand behind its `(`
abbrev pub span_of : Token → List Token → StatementSpan
span_of word inside = record {
  start = word.start;
  end = option_map (λ place. suc (slice_index_or inside place word).start) (closing_from 0 inside);
}

-- the good statements that are found stand one behind the other between two places, each head in its statement
abbrev pub StandFrom : ℕ → List Found → ℕ → Type 0
StandFrom from [] to = from ≤ to
StandFrom from (found.Statement statement ∷ found) to =
    (from ≤ statement.start) × (statement.start < statement.head) × (statement.head < statement.end)
    × StandFrom statement.end found to
StandFrom from (found.Bad bad ∷ found) to = StandFrom from found to

-- ---- statements and their spans

abbrev pub file_of : Found → List ℕ
file_of (found.Statement statement) = statement.file
file_of (found.Bad bad) = bad.file

abbrev pub line_number_of : Found → ℕ
line_number_of (found.Statement statement) = statement.line
line_number_of (found.Bad bad) = bad.line

-- a good statement has a start and an end; of a bad one its cause says whether something closes it
abbrev pub HasSpan : Found → StatementSpan → Type 0
HasSpan (found.Statement statement) span = (span.start ≡ statement.start) × (span.end ≡ Some statement.end)
HasSpan (found.Bad bad) span = (bad.cause ≡ causes.Unclosed) ↔ (span.end ≡ None)

-- the statement begins with one of the tokens, and has the file and the line that are in force there
pub record StandsAt (text : SourceText) (tokens : List Token) (span : StatementSpan) (one : Found) : Type 0 where
  pub front : List Token
  pub word : Token
  pub behind : List Token
  pub tokens_are : tokens ≡ front ++ word ∷ behind
  pub begins_there : begins text.bytes word behind ≡ true
  pub span_is : span ≡ span_of word (drop 1 behind)
  pub has : HasSpan one span
  pub file : file_of one ≡ (in_force text word).name
  pub line : line_number_of one ≡ line_number_at text.bytes (in_force text word) word.start

abbrev pub Stand : SourceText → List Token → List StatementSpan → List Found → Type 0
Stand text tokens [] found = found ≡ []
Stand text tokens (span ∷ spans) [] = ⊥
Stand text tokens (span ∷ spans) (one ∷ found) = StandsAt text tokens span one × Stand text tokens spans found

-- these are all statements among the tokens: each `NANO_LOG` with a parenthesis behind it begins one of them or stands
-- between the parentheses of one
pub record AreAll (text : SourceText) (tokens : List Token) (found : List Found) : Type 0 where
  pub spans : List StatementSpan
  pub stand : Stand text tokens spans found
  pub apart : AreDisjoint 0 spans
  pub each : (front : List Token) (word : Token) (behind : List Token) → tokens ≡ front ++ word ∷ behind
      → begins text.bytes word behind ≡ true → IsInOne word.start spans
