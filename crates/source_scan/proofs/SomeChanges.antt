-- The parts of a source have line directives, if the bytes of each part have tokens.
use Rattle.std.proofs.Common.{ℕ, ◌+◌, List, [], ◌∷◌, Option, drop, refl, inl, inr}
use Rattle.std.proofs.lemmas.Bool.{cases_Bool}
use Rattle.source_tokens.specs.declared.token.Token.{Token}
use Rattle.source_tokens.specs.Tokens.{Tokens}
use Rattle.source_scan.specs.declared.line_change.LineChange.{LineChange}
use Rattle.source_scan.specs.declared.position.PlacedChange.{PlacedChange}
use Rattle.source_scan.specs.Texts.{bytes_of, significant}
use Rattle.source_scan.specs.LineChanges.{ReadsDirective, directive_change}
use Rattle.source_scan.specs.Positions.{has_next_line, with_change, Changes}
use Rattle.source_scan.proofs.ChangeLists.{other-front, read-front}
use Rattle.source_scan.proofs.SomeTokens.{HaveTokens}

-- a directive is read by its tokens
some_reading : (directive : List ℕ) (tokens : List Token) → Tokens directive tokens → ReadsDirective directive (directive_change directive (drop 1 (significant tokens)))
some_reading directive tokens are = record { tokens = tokens; tokens_are = are; change_is = refl }

pub some_changes : (source : List ℕ) (parts : List Token) → HaveTokens source → (changes : List PlacedChange) × Changes source parts changes
unfolding Changes
some_changes source [] have = ([], refl)
some_changes source (part ∷ parts) have =
    let rest = some_changes source parts have in
    let tokens = have part in
    let change : Option LineChange = directive_change (bytes_of source part) (drop 1 (significant tokens.0)) in
    elim (cases_Bool (has_next_line source part)) [
      | inl is ↦ (with_change (part.end + 1) change rest.0, read-front source part parts change rest.0 is (some_reading (bytes_of source part) tokens.0 tokens.1) rest.1)
      | inr none ↦ (rest.0, other-front source part parts rest.0 none rest.1)
    ]
