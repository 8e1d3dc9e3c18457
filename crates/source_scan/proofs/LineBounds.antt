-- How great the number of a line can be.
use Rattle.std.proofs.Common.{◌≡◌, ℕ, ◌+◌, ◌-◌, ◌≤◌, Bool, true, false, ◌&&◌, nat_le, List, [], ◌∷◌, length, take, drop, Option, Some, None, refl, sym, subst, inl, inr, arith, if◌then◌else◌}
use Rattle.std.specs.Prelude.{IfSome, codes}
use Rattle.std.specs.List.{list_all, AllByRecursion}
use Rattle.std.specs.Str.Parse.{digits_value}
use Rattle.std.proofs.lemmas.Bool.{cases_Bool, and_parts, leb-true, MatchBool-at_true, MatchBool-at_false}
use Rattle.std.proofs.lemmas.List.{length-take, length-drop}
use Rattle.std.proofs.lemmas.List.Sums.{count_by-le-length}
use Rattle.source_tokens.specs.declared.kind.TokenKind.{TokenKind}
use Rattle.source_tokens.specs.declared.kind.TokenKind.TheVariants as kinds
use Rattle.source_tokens.specs.declared.token.Token.{Token}
use Rattle.source_scan.specs.declared.line_change.TheConstants.{MAX_LINE}
use Rattle.source_scan.specs.declared.line_change.LineChange.{LineChange}
use Rattle.source_scan.specs.declared.position.PlacedChange.{PlacedChange}
use Rattle.source_scan.specs.Texts.{unspliced, bytes_of, is_word, significant}
use Rattle.source_scan.specs.LineNumbers.{is_decimal, spelled_number}
use Rattle.source_scan.specs.LineChanges.{kind_number, line_number, file_name, with_both, with_number, named}
use Rattle.source_scan.specs.LineChanges.{marker_change, line_change, directive_change, ReadsDirective}
use Rattle.source_scan.specs.Positions.{InForce, has_next_line, with_change, Changes, changed, changed_to, at_front}
use Rattle.source_scan.specs.Positions.{in_force_at, is_line_end, line_number_at}

-- ---- what directives say

-- the number is one that a line directive gives
abbrev IsWithin : ℕ → Type 0
IsWithin number = number ≤ MAX_LINE

abbrev IsChangeWithin : LineChange → Type 0
IsChangeWithin change = IsWithin change.number

chosen : (b : Bool) (number : ℕ) → (b ≡ true → IsWithin number) → IfSome (if b then Some number else None) IsWithin
chosen true number within = within refl
chosen false number within = tt

number-within : (text : List ℕ) → IfSome (spelled_number text) IsWithin
number-within text =
    chosen (list_all is_decimal text && nat_le (digits_value 10 text) MAX_LINE) (digits_value 10 text)
    (λ is. leb-true (digits_value 10 text) MAX_LINE (and_parts (list_all is_decimal text) (nat_le (digits_value 10 text) MAX_LINE) is).1)

kind-within : (kind : TokenKind) (bytes : List ℕ) → IfSome (kind_number kind bytes) IsWithin
kind-within kinds.Number bytes = number-within (unspliced bytes)
kind-within _ bytes = tt

both-within : (number : Option ℕ) (name : Option (List ℕ)) → IfSome number IsWithin → IfSome (with_both number name) IsChangeWithin
both-within None name within = tt
both-within (Some number) None within = tt
both-within (Some number) (Some name) within = within

named-within : (source : List ℕ) (number name : Token) → IfSome (named source number name) IsChangeWithin
named-within source number name = both-within (line_number source number) (file_name source name) (kind-within number.kind (bytes_of source number))

alone-within : (number : Option ℕ) → IfSome number IsWithin → IfSome (with_number number) IsChangeWithin
alone-within None within = tt
alone-within (Some number) within = within

marker-within : (source : List ℕ) (tokens : List Token) → IfSome (marker_change source tokens) IsChangeWithin
marker-within source [] = tt
marker-within source (number ∷ []) = tt
marker-within source (number ∷ name ∷ tokens) = named-within source number name

line-within : (source : List ℕ) (tokens : List Token) → IfSome (line_change source tokens) IsChangeWithin
line-within source [] = tt
line-within source (number ∷ []) = alone-within (line_number source number) (kind-within number.kind (bytes_of source number))
line-within source (number ∷ name ∷ []) = named-within source number name
line-within source (number ∷ name ∷ other ∷ tokens) = tt

either-within : (b : Bool) (one other : Option LineChange) → IfSome one IsChangeWithin → IfSome other IsChangeWithin → IfSome (if b then one else other) IsChangeWithin
either-within true one other within within_other = within
either-within false one other within within_other = within_other

directive-within : (source : List ℕ) (tokens : List Token) → IfSome (directive_change source tokens) IsChangeWithin
directive-within source [] = tt
directive-within source (first ∷ tokens) =
    either-within (is_word (codes "line") source first) (line_change source tokens) (marker_change source (first ∷ tokens)) (line-within source tokens) (marker-within source (first ∷ tokens))

reading-within : (directive : List ℕ) (change : Option LineChange) → ReadsDirective directive change → IfSome change IsChangeWithin
reading-within directive change reads =
    subst (λ (one : Option LineChange). IfSome one IsChangeWithin) (sym reads.change_is) (directive-within directive (drop 1 (significant reads.tokens)))

-- ---- the changes of a source

abbrev AreWithin : List PlacedChange → Type 0
AreWithin changes = AllByRecursion (λ (placed : PlacedChange). IsChangeWithin placed.change) changes

front-within : (from : ℕ) (change : Option LineChange) (changes : List PlacedChange) → IfSome change IsChangeWithin → AreWithin changes → AreWithin (with_change from change changes)
front-within from None changes within later = later
front-within from (Some change) changes within later = (within, later)

changes-within : (source : List ℕ) (parts : List Token) (changes : List PlacedChange) → Changes source parts changes → AreWithin changes
unfolding Changes
changes-within source [] changes are = subst AreWithin (sym are) tt
changes-within source (part ∷ parts) changes are =
    elim (cases_Bool (has_next_line source part)) [
      | inl is ↦
          let read = MatchBool-at_true _ _ is are in
          let later = changes-within source parts read.1 read.3 in
          subst AreWithin (sym read.4) (front-within (part.end + 1) read.0 read.1 (reading-within (bytes_of source part) read.0 read.2) later)
      | inr none ↦ changes-within source parts changes (MatchBool-at_false _ _ none are)
    ]

-- ---- what is in force

passed-within : (place : ℕ) (before : InForce) (changes : List PlacedChange) → IsWithin before.number → AreWithin changes → IsWithin (changed_to place before changes).number
unfolding changed_to
passed-within place before [] within are = within
passed-within place before (placed ∷ changes) within are =
    elim (nat_le placed.from place) as (λ (b : Bool). IsWithin (if b then changed_to place (changed before placed) changes else before).number) [
      | true ↦ passed-within place (changed before placed) changes are.0 are.1
      | false ↦ within
    ]

-- a line is at most so far behind the number in force as the source has bytes
pub line-bound : (file source : List ℕ) (parts : List Token) (changes : List PlacedChange) → Changes source parts changes → (place : ℕ) → line_number_at source (in_force_at file changes place) place ≤ MAX_LINE + length source
line-bound file source parts changes are place =
    let force : InForce = in_force_at file changes place in
    let number : force.number ≤ MAX_LINE = passed-within place (at_front file) changes (omega arith) (changes-within source parts changes are) in
    let bytes : List ℕ = take (place - force.from) (drop force.from source) in
    omega (arith, number, count_by-le-length is_line_end bytes, length-take (place - force.from) (drop force.from source), length-drop force.from source)
