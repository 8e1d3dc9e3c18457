-- The statements that are found are all that there are.
use Rattle.std.proofs.Common.{◌≡◌, ℕ, zero, suc, ◌<◌, ◌≤◌, Bool, true, false, cond, List, [], ◌∷◌, ◌++◌, length, drop, get_or, Option, Some, None, refl, sym, subst, ap, ◌∙◌, inl, inr, arith}
use Rattle.std.specs.Prelude.{MatchBool, MatchOption}
use Rattle.std.specs.Option.{option_map}
use Rattle.std.proofs.lemmas.Bool.{cases_Bool, cases_lt, false≢true}
use Rattle.std.proofs.lemmas.List.{get_or_at, length-append}
use Rattle.std.proofs.lemmas.Option.{none-some}
use Rattle.source_tokens.specs.declared.token.Token.{Token}
use Rattle.source_tokens.specs.Directives.{Parts}
use Rattle.source_scan.specs.declared.position.PlacedChange.{PlacedChange}
use Rattle.source_scan.specs.declared.found.Found.{Found}
use Rattle.source_scan.specs.declared.found.Found.TheVariants as found
use Rattle.source_scan.specs.Arguments.{is_bare, depth_behind, closing_from}
use Rattle.source_scan.specs.Rising.{RiseFrom}
use Rattle.source_scan.specs.Texts.{significant}
use Rattle.source_scan.specs.Positions.{Changes, line_number_at}
use Rattle.source_scan.specs.Statements.{SourceText, begins, in_force, IsFoundAt, reading_of, own_length, own_tokens, Finds, Statements}
use Rattle.source_scan.specs.Readings.{HasCause}
use Rattle.source_scan.specs.Spans.{StatementSpan, IsIn, IsInOne, AreDisjoint, AreAll, span_of, file_of, line_number_of, HasSpan, Stand}
use Rattle.source_scan.proofs.Rises.{rise-at, rise-wider, rise-drop, significant-rise}
use Rattle.source_scan.proofs.lemmas.Unique.{statements_find}

-- ---- what stands in front of a closing parenthesis

-- the place of a parenthesis that closes is one of the tokens
pub closing_within : (depth : ℕ) (tokens : List Token) (place : ℕ) → closing_from depth tokens ≡ Some place → place < length tokens
unfolding closing_from
closing_within depth [] place closes = cc
closing_within depth (token ∷ tokens) place closes = by_test (is_bare 41 depth token) (closing_from (depth_behind depth token) tokens) (closing_within (depth_behind depth token) tokens) closes
  where
    by_test : (here : Bool) (later : Option ℕ) → ((n : ℕ) → later ≡ Some n → n < length tokens) → cond here (Some 0) (option_map suc later) ≡ Some place → place < suc (length tokens)
    by_test true later within closes = let none : 0 ≡ place = cc in omega (arith, none)
    by_test false None within closes = cc
    by_test false (Some n) within closes = let next : suc n ≡ place = cc in omega (arith, next, within n refl)

-- of two tokens the first begins no later
pub rise_order : (start end i j : ℕ) (tokens : List Token) (d : Token) → i ≤ j → j < length tokens → RiseFrom start tokens end → (get_or tokens i d).start ≤ (get_or tokens j d).start
unfolding RiseFrom
rise_order start end i j [] d order within rise = absurd (omega (arith, within))
rise_order start end zero zero (token ∷ tokens) d order within rise = omega arith
rise_order start end zero (suc j) (token ∷ tokens) d order within rise = omega (arith, rise.1, (rise-at token.end end j tokens d (omega (arith, within)) rise.2).0)
rise_order start end (suc i) zero (token ∷ tokens) d order within rise = absurd (omega (arith, order))
rise_order start end (suc i) (suc j) (token ∷ tokens) d order within rise = rise_order token.end end i j tokens d (omega (arith, order)) (omega (arith, within)) rise.2

-- those behind a token rise from where it ends
pub rise_behind : (start end i : ℕ) (tokens : List Token) (d : Token) → i < length tokens → RiseFrom start tokens end → RiseFrom (suc (get_or tokens i d).start) (drop (suc i) tokens) end
unfolding RiseFrom
rise_behind start end i [] d within rise = absurd (omega (arith, within))
rise_behind start end zero (token ∷ tokens) d within rise = rise-wider token.end (suc token.start) end end tokens (omega (arith, rise.1)) (omega arith) rise.2
rise_behind start end (suc i) (token ∷ tokens) d within rise = rise_behind token.end end i tokens d (omega (arith, within)) rise.2

-- ---- one statement

-- what is found there has the file, the line and the span
pub record Has (text : SourceText) (token : Token) (inside : List Token) (one : Found) : Type 0 where
  pub span : HasSpan one (span_of token inside)
  pub file : file_of one ≡ (in_force text token).name
  pub line : line_number_of one ≡ line_number_at text.bytes (in_force text token) token.start

found_has : (text : SourceText) (token : Token) (inside : List Token) (closing : Option ℕ) (one : Found) → closing_from 0 inside ≡ closing → IsFoundAt text token inside closing one → Has text token inside one
found_has text token inside None (found.Statement statement) closes at = absurd at
found_has text token inside None (found.Bad bad) closes at = record { span = ((λ e. ap (option_map _) closes), λ e. at.cause); file = at.file; line = at.line_is }
found_has text token inside (Some place) (found.Statement statement) closes at = record { span = (sym at.start, ap (option_map _) closes ∙ ap Some (sym at.end)); file = at.file; line = at.line }
found_has text token inside (Some place) (found.Bad bad) closes at =
    let reading = reading_of (in_force text token).name (line_number_at text.bytes (in_force text token) token.start) token inside place in
    record {
      span = ((λ e. absurd (subst (HasCause text.bytes reading) e at.1)), (λ none. absurd (none-some _ (sym none ∙ ap (option_map _) closes))));
      file = at.0.file;
      line = at.0.line;
    }

-- a token that is no further behind than the closing parenthesis is in the span
in_span : (token next : Token) (inside front : List Token) (word : Token) (behind : List Token) (closing : Option ℕ) (from end : ℕ) → RiseFrom from (token ∷ next ∷ inside) end → ((place : ℕ) → closing ≡ Some place → place < length inside)
    → token ∷ next ∷ inside ≡ front ++ word ∷ behind → length front ≤ suc (own_tokens inside closing) → IsIn word.start (record { start = token.start; end = option_map (λ place. suc (get_or inside place token).start) closing })
in_span token next inside front word behind closing from end rise within are near = by_closing closing within near
  where
    at : (get_or (token ∷ next ∷ inside) (length front) token).start ≡ word.start
    at = ap (λ (list : List Token). (get_or list (length front) token).start) are ∙ ap (λ (one : Token). one.start) (get_or_at front word behind token (length front) refl)

    there : length front < length (token ∷ next ∷ inside)
    there = let lengths = ap length are in let sum = length-append front (word ∷ behind) in omega (arith, lengths, sum)

    behind_start : token.start ≤ word.start
    behind_start = omega (arith, at, rise_order from end 0 (length front) (token ∷ next ∷ inside) token (omega arith) there rise)

    by_closing : (closing : Option ℕ) → ((place : ℕ) → closing ≡ Some place → place < length inside) → length front ≤ suc (own_tokens inside closing) → IsIn word.start (record { start = token.start; end = option_map (λ place. suc (get_or inside place token).start) closing })
    by_closing None within near = (behind_start, tt)
    by_closing (Some place) within near =
        (behind_start, omega (arith, at, rise_order from end (length front) (suc (suc place)) (token ∷ next ∷ inside) token near (omega (arith, within place refl)) rise))

-- the others stand behind it
apart_behind : (token next : Token) (inside : List Token) (spans : List StatementSpan) (closing : Option ℕ) (start end : ℕ) → RiseFrom start inside end → ((place : ℕ) → closing ≡ Some place → place < length inside)
    → (length (next ∷ inside) ≤ suc (own_tokens inside closing) → spans ≡ []) → ((from last : ℕ) → RiseFrom from (drop (suc (own_tokens inside closing)) (next ∷ inside)) last → AreDisjoint from spans)
    → MatchOption (option_map (λ place. suc (get_or inside place token).start) closing) (spans ≡ []) (λ last. AreDisjoint last spans)
apart_behind token next inside spans None start end rise within none apart = none (omega arith)
apart_behind token next inside spans (Some place) start end rise within none apart = apart (suc (get_or inside place token).start) end (rise_behind start end place inside token (within place refl) rise)

-- ---- all statements

-- each `NANO_LOG` with a parenthesis behind it, behind so many tokens, is in one of the spans
abbrev Each : SourceText → ℕ → List Token → List StatementSpan → Type 0
Each text own tokens spans = (front : List Token) (word : Token) (behind : List Token) → tokens ≡ front ++ word ∷ behind → begins text.bytes word behind ≡ true → own ≤ length front → IsInOne word.start spans

-- the statements among tokens of which so many at the front belong to one before them
record Laid (text : SourceText) (own : ℕ) (tokens : List Token) (found : List Found) : Type 0 where
  pub spans : List StatementSpan
  pub stand : Stand text tokens spans found
  pub none : length tokens ≤ own → spans ≡ []
  pub apart : (from end : ℕ) → RiseFrom from (drop own tokens) end → AreDisjoint from spans
  pub each : Each text own tokens spans

no_token : (front : List Token) (word : Token) (behind : List Token) → [] ≡ front ++ word ∷ behind → ⊥
no_token front word behind e = let lengths = ap length e in let sum = length-append front (word ∷ behind) in omega (arith, lengths, sum)

each_passed : (text : SourceText) (own : ℕ) (token : Token) (tokens : List Token) (spans : List StatementSpan) → Each text own tokens spans → Each text (suc own) (token ∷ tokens) spans
each_passed text own token tokens spans each [] word behind are is far = absurd (omega (arith, far))
each_passed text own token tokens spans each (first ∷ front) word behind are is far = let same : tokens ≡ front ++ word ∷ behind = cc in each front word behind same is (omega (arith, far))

each_other : (text : SourceText) (token : Token) (tokens : List Token) (spans : List StatementSpan) → begins text.bytes token tokens ≡ false → Each text 0 tokens spans → Each text 0 (token ∷ tokens) spans
each_other text token tokens spans none each [] word behind are is far = let same : begins text.bytes token tokens ≡ begins text.bytes word behind = cc in absurd (false≢true (sym none ∙ same ∙ is))
each_other text token tokens spans none each (first ∷ front) word behind are is far = each_passed text 0 token tokens spans each (first ∷ front) word behind are is (omega arith)

stand_passed : (text : SourceText) (token : Token) (tokens : List Token) (spans : List StatementSpan) (found : List Found) → Stand text tokens spans found → Stand text (token ∷ tokens) spans found
stand_passed text token tokens [] found stand = stand
stand_passed text token tokens (span ∷ spans) [] stand = stand
stand_passed text token tokens (span ∷ spans) (one ∷ found) stand =
    let at = stand.0 in (
      record {
        front = token ∷ at.front;
        word = at.word;
        behind = at.behind;
        tokens_are = ap (λ (list : List Token). token ∷ list) at.tokens_are;
        begins_there = at.begins_there;
        span_is = at.span_is;
        has = at.has;
        file = at.file;
        line = at.line;
      },
      stand_passed text token tokens spans found stand.1,
    )

-- a token of a statement before
passed : (text : SourceText) (own : ℕ) (token : Token) (tokens : List Token) (found : List Found) → Laid text own tokens found → Laid text (suc own) (token ∷ tokens) found
passed text own token tokens found later = record {
  spans = later.spans;
  stand = stand_passed text token tokens later.spans found later.stand;
  none = λ short. later.none (omega (arith, short));
  apart = later.apart;
  each = each_passed text own token tokens later.spans later.each;
}

-- a token that begins none
other : (text : SourceText) (token : Token) (tokens : List Token) (found : List Found) → begins text.bytes token tokens ≡ false → Laid text 0 tokens found → Laid text 0 (token ∷ tokens) found
other text token tokens found none later = record {
  spans = later.spans;
  stand = stand_passed text token tokens later.spans found later.stand;
  none = λ short. absurd (omega (arith, short));
  apart = λ from end rise. later.apart from end (rise-drop 1 from end (token ∷ tokens) rise);
  each = each_other text token tokens later.spans none later.each;
}

-- one that begins a statement
stated : (text : SourceText) (token : Token) (tokens : List Token) (one : Found) (others : List Found) (start end : ℕ) → RiseFrom start (token ∷ tokens) end → begins text.bytes token tokens ≡ true
    → IsFoundAt text token (drop 1 tokens) (closing_from 0 (drop 1 tokens)) one → Laid text (own_length tokens) tokens others → Laid text 0 (token ∷ tokens) (one ∷ others)
unfolding RiseFrom
stated text token [] one others start end rise is at later = absurd (false≢true is)
stated text token (next ∷ inside) one others start end rise is at later =
    let closing : Option ℕ = closing_from 0 inside in
    let within : (place : ℕ) → closing ≡ Some place → place < length inside = closing_within 0 inside in
    let has = found_has text token inside closing one refl at in
    record {
      spans = span_of token inside ∷ later.spans;
      stand = (
        record {
          front = [];
          word = token;
          behind = next ∷ inside;
          tokens_are = refl;
          begins_there = is;
          span_is = refl;
          has = has.span;
          file = has.file;
          line = has.line;
        },
        stand_passed text token (next ∷ inside) later.spans others later.stand,
      );
      none = λ short. absurd (omega (arith, short));
      apart = λ from last rises. (rises.0, apart_behind token next inside later.spans closing next.end last rises.2.2 within later.none later.apart);
      each = λ front word behind are begins_there far.
          elim (cases_lt (own_length (next ∷ inside)) (length front)) [
            | inl lt ↦ inr (each_passed text (own_length (next ∷ inside)) token (next ∷ inside) later.spans later.each front word behind are begins_there lt)
            | inr ge ↦ inl (in_span token next inside front word behind closing start end rise within are ge)
          ];
    }

laid : (text : SourceText) (own : ℕ) (tokens : List Token) (found : List Found) (start end : ℕ) → RiseFrom start tokens end → Finds text own tokens found → Laid text own tokens found
unfolding Finds RiseFrom
laid text own [] found start end rise finds = record { spans = []; stand = finds; none = λ short. refl; apart = λ from last rises. tt; each = λ front word behind are is far. absurd (no_token front word behind are) }
laid text (suc own) (token ∷ tokens) found start end rise finds = passed text own token tokens found (laid text own tokens found token.end end rise.2 finds)
laid text zero (token ∷ tokens) found start end rise finds =
    let by = λ (b : Bool). MatchBool b ((one : Found) × (others : List Found) × (found ≡ one ∷ others) × IsFoundAt text token (drop 1 tokens) (closing_from 0 (drop 1 tokens)) one × Finds text (own_length tokens) tokens others) (Finds text zero tokens found) in
    elim (cases_Bool (begins text.bytes token tokens)) [
      | inl is ↦
          let one = subst by is finds in
          let later = laid text (own_length tokens) tokens one.1 token.end end rise.2 one.4 in
          subst (Laid text zero (token ∷ tokens)) (sym one.2) (stated text token tokens one.0 one.1 start end rise is one.3 later)
      | inr none ↦ other text token tokens found none (laid text zero tokens found token.end end rise.2 (subst by none finds))
    ]

pub are_all : (file source : List ℕ) (parts : List Token) (changes : List PlacedChange) (found : List Found) → Parts source parts → Changes source parts changes → Statements file source found
    → AreAll (record { file = file; bytes = source; changes = changes }) (significant parts) found
are_all file source parts changes found are changes_are statements =
    let rise : RiseFrom 0 (significant parts) (length source) = significant-rise source parts (significant parts) (length source) are refl (omega arith) in
    let all = laid (record { file = file; bytes = source; changes = changes }) 0 (significant parts) found 0 (length source) rise (statements_find file source parts changes found are changes_are statements) in
    record {
      spans = all.spans;
      stand = all.stand;
      apart = all.apart 0 (length source) rise;
      each = λ front word behind same is. all.each front word behind same is (omega arith);
    }
