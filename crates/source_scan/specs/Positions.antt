-- The line and the name of a file that are in force at a place of a source.
use Rattle.std.specs.Prelude.{◌≡◌, ℕ, ◌+◌, ◌-◌, Bool, true, false, ◌&&◌, ◌==◌, nat_lt, nat_le, if◌then◌else◌}
use Rattle.std.specs.Prelude.{List, [], ◌∷◌, length, take, drop, count_by, unwrap_or, MatchBool, Option, Some, None}
use Rattle.source_tokens.specs.declared.kind.TokenKind.{TokenKind}
use Rattle.source_tokens.specs.declared.kind.TokenKind.TheVariants as kinds
use Rattle.source_tokens.specs.declared.token.Token.{Token}
use Rattle.source_scan.specs.declared.line_change.LineChange.{LineChange}
use Rattle.source_scan.specs.declared.position.PlacedChange.{PlacedChange}
use Rattle.source_scan.specs.declared.position.SourcePosition.{SourcePosition}
use Rattle.source_scan.specs.Texts.{bytes_of}
use Rattle.source_scan.specs.LineChanges.{ReadsDirective}

-- ---- the changes of a source

abbrev pub is_directive : TokenKind → Bool
is_directive kinds.Directive = true
is_directive _ = false

-- a directive with a line behind it
abbrev pub has_next_line : List ℕ → Token → Bool
has_next_line source part = is_directive part.kind && nat_lt part.end (length source)

-- with a change at the front, if there is one
abbrev pub with_change : ℕ → Option LineChange → List PlacedChange → List PlacedChange
with_change from None changes = changes
with_change from (Some change) changes = record { from = from; change = change } ∷ changes

-- the line directives among the parts, each with the place where its next line begins
unfoldable pub Changes : List ℕ → List Token → List PlacedChange → Type 0
Changes source [] changes = changes ≡ []
Changes source (part ∷ parts) changes =
    MatchBool (has_next_line source part)
    ((change : Option LineChange) × (others : List PlacedChange) × ReadsDirective (bytes_of source part) change
    × Changes source parts others × (changes ≡ with_change (part.end + 1) change others))
    (Changes source parts changes)

-- ---- what is in force

-- from a place on, up to the next change: the number of the line that begins there, and the name of the file
pub record InForce : Type 0 where
  pub from : ℕ
  pub number : ℕ
  pub name : List ℕ

-- the same as code holds it
abbrev pub in_force_of : SourcePosition → InForce
in_force_of position = record { from = position.from; number = position.number; name = position.name.now }

-- what is in force behind a change
abbrev pub changed : InForce → PlacedChange → InForce
changed before placed = record {
  from = placed.from;
  number = placed.change.number;
  name = unwrap_or placed.change.name before.name;
}

-- what is in force behind the changes up to a place, one after the other
unfoldable pub changed_to : ℕ → InForce → List PlacedChange → InForce
changed_to place before [] = before
changed_to place before (placed ∷ changes) =
    if nat_le placed.from place then changed_to place (changed before placed) changes else before

-- what is in force at the front of a source: line 1, and the file's own name
abbrev pub at_front : List ℕ → InForce
at_front file = record { from = 0; number = 1; name = file }

-- what is in force at a place
abbrev pub in_force_at : List ℕ → List PlacedChange → ℕ → InForce
in_force_at file changes place = changed_to place (at_front file) changes

abbrev pub is_line_end : ℕ → Bool
is_line_end byte = byte == 10

-- the line at a place, where this is in force
abbrev pub line_number_at : List ℕ → InForce → ℕ → ℕ
line_number_at source in_force place =
    in_force.number + count_by is_line_end (take (place - in_force.from) (drop in_force.from source))
