-- How many places frames take.
use Rattle.std.proofs.Common.{◌≡◌, ℕ, ◌+◌, ◌-◌, ◌*◌, ◌%◌, ◌/◌, ◌<◌, ◌≤◌, List, [], ◌∷◌, ◌++◌, refl, ap, ◌∙◌, ⊎_elim, arith}
use Rattle.std.proofs.lemmas.Bool.{cases_lt}
use Rattle.std.proofs.lemmas.Bool.Decides.{nat_tests}
use Rattle.std.proofs.Math.Nat.{mod-lt, div-add-mod, mul-add-mod_self_left, mod_self}
use Rattle.arg_records.specs.declared.call.Call.{Call}
use Rattle.arg_records.specs.Frames.{FrameLen}
use Rattle.ring_core.specs.Positions.{Need, position_from}

-- a frame that fits before the ring's end takes its words
pub Need-within : (at frame words : ℕ) → at % words + frame ≤ words → Need at frame words ≡ frame
Need-within at frame words within = grind (arith, nat_tests)

-- another takes the places up to there too
pub Need-beyond : (at frame words : ℕ) → words < at % words + frame → Need at frame words ≡ frame + (words - at % words)
Need-beyond at frame words beyond = grind (arith, nat_tests)

pub Need-least : (at frame words : ℕ) → frame ≤ Need at frame words
Need-least at frame words =
    ⊎_elim
    (λ (beyond : words < at % words + frame). omega (arith, Need-beyond at frame words beyond))
    (λ (within : at % words + frame ≤ words). omega (arith, Need-within at frame words within))
    (cases_lt words (at % words + frame))

pub Need-most : (at frame words : ℕ) → 1 ≤ words → frame ≤ 512 → Need at frame words ≤ 1023
Need-most at frame words some few =
    ⊎_elim
    (λ (beyond : words < at % words + frame). omega (arith, Need-beyond at frame words beyond, mod-lt at {m = words} (omega (arith, some))))
    (λ (within : at % words + frame ≤ words). omega (arith, Need-within at frame words within))
    (cases_lt words (at % words + frame))

pub position_from-push : (at : ℕ) (calls : List Call) (call : Call) (words : ℕ)
    → position_from at (calls ++ call ∷ []) words ≡ position_from at calls words + Need (position_from at calls words) (FrameLen call.args) words
position_from-push at [] call words = refl
position_from-push at (first ∷ calls) call words = position_from-push (at + Need at (FrameLen first.args) words) calls call words

-- no frame crosses the ring's end
pub Need-inside : (at frame words : ℕ) → 1 ≤ words → frame ≤ words → (at + (Need at frame words - frame)) % words + frame ≤ words
Need-inside at frame words some room =
    ⊎_elim
    (λ (beyond : words < at % words + frame).
    let start : at + (Need at frame words - frame) ≡ words * (at / words) + words = omega (arith, Need-beyond at frame words beyond, div-add-mod at words, mod-lt at {m = words} (omega (arith, some))) in
    let place : (at + (Need at frame words - frame)) % words ≡ 0 = ap (λ (n : ℕ). n % words) start ∙ mul-add-mod_self_left words (at / words) words ∙ mod_self words in
    omega (arith, place, room))
    (λ (within : at % words + frame ≤ words).
    let start : at + (Need at frame words - frame) ≡ at = omega (arith, Need-within at frame words within) in
    omega (arith, ap (λ (n : ℕ). n % words) start, within))
    (cases_lt words (at % words + frame))
