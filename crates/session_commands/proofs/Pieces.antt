-- Lines piece by piece.
use Rattle.std.proofs.Common.{◌≡◌, ℕ, List, [], ◌∷◌, ◌++◌, codes, append_assoc, append-nil, ◌∙◌}
use Rattle.std.specs.Fmt.{decimal}
use Rattle.std.specs.List.{concat}
use Rattle.trace_session.specs.declared.drops.Dropped.{Dropped}
use Rattle.session_commands.specs.declared.selftesting.Summary.{Summary}
use Rattle.session_commands.specs.Headline.{drop_line, counts_line}
use Rattle.session_commands.specs.Selftests.{summary_line}

seven : (a b c d e f g : List ℕ) → concat (a ∷ b ∷ c ∷ d ∷ e ∷ f ∷ g ∷ []) ≡ a ++ b ++ c ++ d ++ e ++ f ++ g
seven a b c d e f g = simp (append_assoc, append-nil)

nine : (a b c d e f g h j : List ℕ) → concat (a ∷ b ∷ c ∷ d ∷ e ∷ f ∷ g ∷ h ∷ j ∷ []) ≡ a ++ b ++ c ++ d ++ e ++ f ++ g ++ h ++ j
nine a b c d e f g h j = simp (append_assoc, append-nil)

thirteen : (a b c d e f g h j k l m n : List ℕ)
    → concat (a ∷ b ∷ c ∷ d ∷ e ∷ f ∷ g ∷ h ∷ j ∷ k ∷ l ∷ m ∷ n ∷ [])
    ≡ a ++ b ++ c ++ d ++ e ++ f ++ g ++ h ++ j ++ k ++ l ++ m ++ n
thirteen a b c d e f g h j k l m n = simp (append_assoc, append-nil)

-- the line on a dropped call
pub drop_pieces : (drop : Dropped) (writer ordinal need room : List ℕ) → writer ≡ decimal drop.writer
    → ordinal ≡ decimal drop.ordinal → need ≡ decimal drop.need → room ≡ decimal drop.room
    → concat (codes "drop " ∷ writer ∷ codes " " ∷ ordinal ∷ codes " need " ∷ need ∷ codes " room " ∷ room ∷ codes "\n" ∷ [])
    ≡ drop_line drop
drop_pieces drop writer ordinal need room a b c d =
    nine (codes "drop ") writer (codes " ") ordinal (codes " need ") need (codes " room ") room (codes "\n")
    ∙ (λ i. codes "drop " ++ a i ++ codes " " ++ b i ++ codes " need " ++ c i ++ codes " room " ++ d i ++ codes "\n")

-- the line on the counts
pub counts_pieces : (accepted dropped filtered : ℕ) (accepted_text dropped_text filtered_text : List ℕ)
    → accepted_text ≡ decimal accepted → dropped_text ≡ decimal dropped → filtered_text ≡ decimal filtered
    → concat (codes "accepted " ∷ accepted_text ∷ codes " dropped " ∷ dropped_text ∷ codes " filtered " ∷ filtered_text ∷ codes "\n" ∷ [])
    ≡ counts_line accepted dropped filtered
counts_pieces accepted dropped filtered accepted_text dropped_text filtered_text a b c =
    seven (codes "accepted ") accepted_text (codes " dropped ") dropped_text (codes " filtered ") filtered_text (codes "\n")
    ∙ (λ i. codes "accepted " ++ a i ++ codes " dropped " ++ b i ++ codes " filtered " ++ c i ++ codes "\n")

-- the line on a session in memory
pub summary_pieces : (summary : Summary) (calls errors warnings notices debugs text : List ℕ)
    → calls ≡ decimal summary.calls → errors ≡ decimal summary.errors → warnings ≡ decimal summary.warnings
    → notices ≡ decimal summary.notices → debugs ≡ decimal summary.debugs → text ≡ decimal summary.text
    → concat (codes "calls " ∷ calls ∷ codes " errors " ∷ errors ∷ codes " warnings " ∷ warnings ∷ codes " notices "
    ∷ notices ∷ codes " debugs " ∷ debugs ∷ codes " text " ∷ text ∷ codes "\n" ∷ []) ≡ summary_line summary
summary_pieces summary calls errors warnings notices debugs text a b c d e f =
    thirteen (codes "calls ") calls (codes " errors ") errors (codes " warnings ") warnings (codes " notices ") notices
    (codes " debugs ") debugs (codes " text ") text (codes "\n")
    ∙ (λ i. codes "calls " ++ a i ++ codes " errors " ++ b i ++ codes " warnings " ++ c i ++ codes " notices " ++ d i
    ++ codes " debugs " ++ e i ++ codes " text " ++ f i ++ codes "\n")
