-- The line directives of parts, taken one by one.
use Rattle.std.proofs.Common.{◌≡◌, ℕ, ◌+◌, ◌<◌, ◌≤◌, Bool, true, false, List, [], ◌∷◌, ◌++◌, length, drop, get_or, Option, Some, None, refl, sym, subst}
use Rattle.std.proofs.Common.{append_assoc}
use Rattle.std.specs.Prelude.{MatchBool}
use Rattle.std.proofs.lemmas.List.{drop_more, drop_all, append-nil}
use Rattle.source_tokens.specs.declared.token.Token.{Token}
use Rattle.source_scan.specs.declared.line_change.LineChange.{LineChange}
use Rattle.source_scan.specs.declared.position.PlacedChange.{PlacedChange}
use Rattle.source_scan.specs.Texts.{bytes_of}
use Rattle.source_scan.specs.LineChanges.{ReadsDirective}
use Rattle.source_scan.specs.Positions.{has_next_line, with_change, Changes}

-- the changes of the first parts, however those of the others go on
abbrev pub ChangesTo : List ℕ → List Token → List PlacedChange → ℕ → Type 0
ChangesTo source parts changes i = (more : List PlacedChange) → Changes source (drop i parts) more → Changes source parts (changes ++ more)

pub other-front : (source : List ℕ) (part : Token) (parts : List Token) (more : List PlacedChange) → has_next_line source part ≡ false → Changes source parts more → Changes source (part ∷ parts) more
unfolding Changes
other-front source part parts more none later =
    subst (λ (b : Bool). MatchBool b ((change : Option LineChange) × (others : List PlacedChange) × ReadsDirective (bytes_of source part) change × Changes source parts others × (more ≡ with_change (part.end + 1) change others)) (Changes source parts more)) (sym none) later

pub read-front : (source : List ℕ) (part : Token) (parts : List Token) (change : Option LineChange) (more : List PlacedChange) → has_next_line source part ≡ true → ReadsDirective (bytes_of source part) change → Changes source parts more
    → Changes source (part ∷ parts) (with_change (part.end + 1) change more)
unfolding Changes
read-front source part parts change more is reads later =
    subst (λ (b : Bool). MatchBool b ((one : Option LineChange) × (others : List PlacedChange) × ReadsDirective (bytes_of source part) one × Changes source parts others × (with_change (part.end + 1) change more ≡ with_change (part.end + 1) one others))
    (Changes source parts (with_change (part.end + 1) change more))) (sym is) (change, more, reads, later, refl)

-- the next part is no directive with a line behind it
pub changes-other : (source : List ℕ) (parts : List Token) (changes : List PlacedChange) (i : ℕ) (d : Token) → i < length parts → ChangesTo source parts changes i → has_next_line source (get_or parts i d) ≡ false → ChangesTo source parts changes (i + 1)
changes-other source parts changes i d within goes none more later =
    goes more (subst (λ (list : List Token). Changes source list more) (sym (drop_more parts i d within)) (other-front source (get_or parts i d) (drop (i + 1) parts) more none later))

-- it changes nothing
pub changes-none : (source : List ℕ) (parts : List Token) (changes : List PlacedChange) (i : ℕ) (d : Token) → i < length parts → ChangesTo source parts changes i → has_next_line source (get_or parts i d) ≡ true → ReadsDirective (bytes_of source (get_or parts i d)) None → ChangesTo source parts changes (i + 1)
changes-none source parts changes i d within goes is reads more later =
    goes more (subst (λ (list : List Token). Changes source list more) (sym (drop_more parts i d within)) (read-front source (get_or parts i d) (drop (i + 1) parts) None more is reads later))

-- it is a line directive
pub changes-some : (source : List ℕ) (parts : List Token) (changes : List PlacedChange) (i : ℕ) (d : Token) (change : LineChange) → i < length parts → ChangesTo source parts changes i → has_next_line source (get_or parts i d) ≡ true
    → ReadsDirective (bytes_of source (get_or parts i d)) (Some change) → ChangesTo source parts (changes ++ record { from = (get_or parts i d).end + 1; change = change } ∷ []) (i + 1)
changes-some source parts changes i d change within goes is reads more later =
    let placed : PlacedChange = record { from = (get_or parts i d).end + 1; change = change } in
    subst (Changes source parts) (sym (append_assoc changes (placed ∷ []) more))
    (goes (placed ∷ more) (subst (λ (list : List Token). Changes source list (placed ∷ more)) (sym (drop_more parts i d within)) (read-front source (get_or parts i d) (drop (i + 1) parts) (Some change) more is reads later)))

-- there are no other parts
pub changes-all : (source : List ℕ) (parts : List Token) (changes : List PlacedChange) (i : ℕ) → length parts ≤ i → ChangesTo source parts changes i → Changes source parts changes
unfolding Changes
changes-all source parts changes i past goes =
    subst (Changes source parts) (append-nil changes) (goes [] (subst (λ (list : List Token). Changes source list []) (sym (drop_all i parts past)) refl))
