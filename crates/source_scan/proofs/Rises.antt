-- Tokens that rise in a source, and how many stand in it.
use Rattle.std.proofs.Common.{◌≡◌, ℕ, zero, suc, ◌+◌, ◌<◌, ◌≤◌, Bool, true, false, cond, List, [], ◌∷◌, length, take, drop, get_or, sym, subst, ap, ◌∙◌, arith}
use Rattle.std.specs.Prelude.{filter}
use Rattle.std.proofs.lemmas.List.{length-take, length-drop}
use Rattle.source_tokens.specs.declared.token.Token.{Token}
use Rattle.source_tokens.specs.Directives.{Parts}
use Rattle.source_tokens.specs.Joins.{JoinsFrom}
use Rattle.source_tokens.proofs.lemmas.Joining.{parts-join}
use Rattle.source_scan.specs.Texts.{is_significant, significant}
use Rattle.source_scan.specs.Arguments.{parted_from}
use Rattle.source_scan.specs.Rising.{RiseFrom}
use Rattle.source_scan.proofs.Commas.{parted-length}
use Rattle.source_scan.proofs.Fronts.{behind, front_and_behind}

-- they rise from an earlier place and up to a later one too
pub rise-wider : (start first end last : ℕ) (tokens : List Token) → first ≤ start → end ≤ last → RiseFrom start tokens end → RiseFrom first tokens last
unfolding RiseFrom
rise-wider start first end last [] before after rise = omega (arith, before, after, rise)
rise-wider start first end last (token ∷ tokens) before after rise =
    (omega (arith, before, rise.0), rise.1, rise-wider token.end token.end end last tokens (omega arith) after rise.2)

-- and without those at the front
pub rise-drop : (n start end : ℕ) (tokens : List Token) → RiseFrom start tokens end → RiseFrom start (drop n tokens) end
unfolding RiseFrom
rise-drop zero start end tokens rise = rise
rise-drop (suc n) start end [] rise = rise
rise-drop (suc n) start end (token ∷ tokens) rise =
    rise-drop n start end tokens (rise-wider token.end start end end tokens (omega (arith, rise.0, rise.1)) (omega arith) rise.2)

first-behind : (start end : ℕ) (first : Token) (tokens : List Token) → RiseFrom start (first ∷ tokens) end → (start ≤ first.start) × RiseFrom first.start tokens end
unfolding RiseFrom
first-behind start end first tokens rise = (rise.0, rise-wider first.end first.start end end tokens (omega (arith, rise.1)) (omega arith) rise.2)

-- there are no more of them than places
pub rise-length : (start end : ℕ) (tokens : List Token) → RiseFrom start tokens end → start + length tokens ≤ end
unfolding RiseFrom
rise-length start end [] rise = omega (arith, rise)
rise-length start end (token ∷ tokens) rise = omega (arith, rise.0, rise.1, rise-length token.end end tokens rise.2)

-- behind the first they rise from where it begins
pub rise-front : (start end : ℕ) (tokens : List Token) (d : Token) → 1 ≤ length tokens → RiseFrom start tokens end → (start ≤ (get_or tokens 0 d).start) × RiseFrom (get_or tokens 0 d).start (behind tokens) end
rise-front start end tokens d some rise =
    first-behind start end (get_or tokens 0 d) (behind tokens) (subst (λ (list : List Token). RiseFrom start list end) (front_and_behind tokens d some) rise)

pub rise-passed : (start end : ℕ) (tokens : List Token) → 1 ≤ length tokens → RiseFrom start tokens end → RiseFrom start (behind tokens) end
rise-passed start end [] some rise = absurd (omega (arith, some))
rise-passed start end (token ∷ tokens) some rise =
    let front = rise-front start end (token ∷ tokens) token some rise in
    rise-wider token.start start end end (behind (token ∷ tokens)) front.0 (omega arith) front.1

-- and behind a statement that begins with it
pub rise-found : (start end from own : ℕ) (tokens inside after : List Token) (d : Token) → 1 ≤ length tokens → RiseFrom start tokens end → from ≡ (get_or tokens 0 d).start → inside ≡ drop 1 (behind tokens) → after ≡ drop own inside → RiseFrom from after end
rise-found start end from own tokens inside after d some rise begins inside_is after_is =
    let front = rise-front start end tokens d some rise in
    let later : after ≡ drop own (drop 1 (behind tokens)) = after_is ∙ ap (drop own) inside_is in
    subst (λ (place : ℕ). RiseFrom place after end) (sym begins)
    (subst (λ (list : List Token). RiseFrom (get_or tokens 0 d).start list end) (sym later) (rise-drop own (get_or tokens 0 d).start end (drop 1 (behind tokens)) (rise-drop 1 (get_or tokens 0 d).start end (behind tokens) front.1)))

-- each begins between the two places
pub rise-at : (start end i : ℕ) (tokens : List Token) (d : Token) → i < length tokens → RiseFrom start tokens end → (start ≤ (get_or tokens i d).start) × ((get_or tokens i d).start < end)
unfolding RiseFrom
rise-at start end i [] d within rise = absurd (omega (arith, within))
rise-at start end zero (token ∷ tokens) d within rise = (rise.0, omega (arith, rise.1, rise-length token.end end tokens rise.2))
rise-at start end (suc i) (token ∷ tokens) d within rise =
    let later = rise-at token.end end i tokens d (omega (arith, within)) rise.2 in
    (omega (arith, rise.0, rise.1, later.0), later.1)

-- there are fewer others behind two arguments than places
pub others-below : (end place : ℕ) (inside : List Token) → place < length inside → RiseFrom 0 inside end → length (drop 2 (parted_from 0 (take place inside))) < end
others-below end place inside within rise =
    let own : List Token = take place inside in
    omega (arith, within, length-drop 2 (parted_from 0 own), parted-length 0 own, length-take place inside, rise-length 0 end inside rise)

-- those of the parts of a source that pass a test
rise-step : (passes : Bool) (start end : ℕ) (part : Token) (parts : List Token) → (start ≤ part.start) → part.start < part.end → RiseFrom part.end parts end → RiseFrom start (cond passes (part ∷ parts) parts) end
unfolding RiseFrom
rise-step true start end part parts after some rise = (after, some, rise)
rise-step false start end part parts after some rise = rise-wider part.end start end end parts (omega (arith, after, some)) (omega arith) rise

joins-rise : (test : Token → Bool) (start end : ℕ) (parts : List Token) → JoinsFrom start parts end → RiseFrom start (filter test parts) end
unfolding JoinsFrom RiseFrom
joins-rise test start end [] joins = omega (arith, joins)
joins-rise test start end (part ∷ parts) joins =
    rise-step (test part) start end part (filter test parts) (omega (arith, joins.0)) (omega (arith, joins.0, joins.1)) (joins-rise test part.end end parts joins.2)

pub significant-rise : (source : List ℕ) (parts tokens : List Token) (end : ℕ) → Parts source parts → tokens ≡ significant parts → length source ≤ end → RiseFrom 0 tokens end
significant-rise source parts tokens end are same within =
    let rise : RiseFrom 0 (significant parts) (length source) = joins-rise (λ (part : Token). is_significant part.kind) 0 (length source) parts (parts-join source parts are) in
    subst (λ (list : List Token). RiseFrom 0 list end) (sym same) (rise-wider 0 0 (length source) end (significant parts) (omega arith) within rise)
