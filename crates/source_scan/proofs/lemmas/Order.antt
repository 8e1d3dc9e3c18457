-- Statements stand one behind the other, each with its head inside.
use Rattle.std.proofs.Common.{◌≡◌, ℕ, zero, suc, ◌<◌, ◌≤◌, Bool, List, [], ◌∷◌, length, take, drop, Option, Some, None, true, refl, sym, subst, inl, inr, arith}
use Rattle.std.specs.Prelude.{MatchBool}
use Rattle.std.proofs.lemmas.Bool.{cases_Bool, false≢true}
use Rattle.std.proofs.lemmas.List.{length-take-le}
use Rattle.source_tokens.specs.declared.token.Token.{Token}
use Rattle.source_scan.specs.declared.found.Found.{Found}
use Rattle.source_scan.specs.declared.found.Found.TheVariants as found
use Rattle.source_scan.specs.Arguments.{closing_from, parted_from, head_length}
use Rattle.source_scan.specs.Rising.{RiseFrom}
use Rattle.source_scan.specs.Spans.{StandFrom}
use Rattle.source_scan.specs.Statements.{SourceText, begins, IsFoundAt, own_tokens, own_length, Finds, Statements}
use Rattle.source_scan.proofs.Heads.{head_within}
use Rattle.source_scan.proofs.Rises.{rise-at, rise-drop, significant-rise}
use Rattle.source_scan.proofs.Spans.{closing_within, rise_order, rise_behind}

-- they stand so from an earlier place on too
earlier : (from later : ℕ) (list : List Found) (to : ℕ) → from ≤ later → StandFrom later list to → StandFrom from list to
earlier from later [] to before stand = omega (arith, before, stand)
earlier from later (found.Statement statement ∷ list) to before stand = (omega (arith, before, stand.0), stand.1, stand.2, stand.3)
earlier from later (found.Bad bad ∷ list) to before stand = earlier from later list to before stand

-- one that begins with a token, and the others behind it
first_stands : (text : SourceText) (token next : Token) (inside : List Token) (closing : Option ℕ) (one : Found) (others : List Found) (from to : ℕ) → closing_from 0 inside ≡ closing → IsFoundAt text token inside closing one → RiseFrom from (token ∷ next ∷ inside) to
    → ((last : ℕ) → RiseFrom last (drop (own_tokens inside closing) inside) to → StandFrom last others to) → StandFrom from (one ∷ others) to
unfolding RiseFrom
first_stands text token next inside None (found.Statement statement) others from to closes at rise later = absurd at
first_stands text token next inside None (found.Bad bad) others from to closes at rise later =
    earlier from next.end others to (omega (arith, rise)) (later next.end (rise-drop (length inside) next.end to inside rise.2.2))
first_stands text token next inside (Some place) (found.Bad bad) others from to closes at rise later =
    let within = closing_within 0 inside place closes in
    earlier from _ others to (omega (arith, rise, rise-at next.end to place inside token within rise.2.2)) (later _ (rise_behind next.end to place inside token within rise.2.2))
first_stands text token next inside (Some place) (found.Statement statement) others from to closes at rise later =
    let within : place < length inside = closing_within 0 inside place closes in
    let head : ℕ = head_length (parted_from 0 (take place inside)) in
    let near : head ≤ place = omega (arith, head_within (take place inside), length-take-le place inside, within) in
    let there = rise-at next.end to head inside token (omega (arith, near, within)) rise.2.2 in
    let order = rise_order next.end to head place inside token near within rise.2.2 in (
      omega (arith, at.start, rise.0),
      omega (arith, at.start, at.head, rise, there),
      omega (arith, at.head, at.end, order),
      subst (λ (end : ℕ). StandFrom end others to) (sym at.end) (later _ (rise_behind next.end to place inside token within rise.2.2)),
    )

-- the statements among tokens of which so many at the front belong to one before them
stand : (text : SourceText) (own : ℕ) (tokens : List Token) (list : List Found) (to : ℕ) → Finds text own tokens list → (from : ℕ) → RiseFrom from (drop own tokens) to → StandFrom from list to
unfolding Finds RiseFrom
stand text zero [] list to finds from rise = subst (λ (l : List Found). StandFrom from l to) (sym finds) rise
stand text (suc own) [] list to finds from rise = subst (λ (l : List Found). StandFrom from l to) (sym finds) rise
stand text (suc own) (token ∷ tokens) list to finds from rise = stand text own tokens list to finds from rise
stand text zero (token ∷ tokens) list to finds from rise =
    let by = λ (b : Bool). MatchBool b ((one : Found) × (others : List Found) × (list ≡ one ∷ others) × IsFoundAt text token (drop 1 tokens) (closing_from 0 (drop 1 tokens)) one × Finds text (own_length tokens) tokens others) (Finds text zero tokens list) in
    elim (cases_Bool (begins text.bytes token tokens)) [
      | inl is ↦
          let one = subst by is finds in
          subst (λ (l : List Found). StandFrom from l to) (sym one.2) (begun tokens one.0 one.1 is one.3 (stand text (own_length tokens) tokens one.1 to one.4) rise)
      | inr none ↦ stand text zero tokens list to (subst by none finds) from (rise-drop 1 from to (token ∷ tokens) rise)
    ]
  where
    begun : (tokens : List Token) (one : Found) (others : List Found) → begins text.bytes token tokens ≡ true → IsFoundAt text token (drop 1 tokens) (closing_from 0 (drop 1 tokens)) one
        → ((last : ℕ) → RiseFrom last (drop (own_length tokens) tokens) to → StandFrom last others to) → RiseFrom from (token ∷ tokens) to → StandFrom from (one ∷ others) to
    begun [] one others is at later rise = absurd (false≢true is)
    begun (next ∷ inside) one others is at later rise = first_stands text token next inside (closing_from 0 inside) one others from to refl at rise later

pub statements_stand : (file source : List ℕ) (list : List Found) → Statements file source list → StandFrom 0 list (length source)
statements_stand file source list is = stand _ 0 _ list (length source) is.finds 0 (significant-rise source is.parts _ (length source) is.parts_are refl (omega arith))
