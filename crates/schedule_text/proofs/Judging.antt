-- What the first line of a step comes to.
use Rattle.std.proofs.Common.{◌≡◌, ◌≢◌, ℕ, zero, suc, ◌+◌, ◌-◌, ◌<◌, List, [], ◌∷◌, ◌++◌, Option, Some, None, refl, sym, ap, ◌∙◌, inl, inr, arith, true, eqb, take, drop}
use Rattle.std.specs.Prelude.{◌⊎◌, slice_get, IfSome, length}
use Rattle.std.specs.Cmp.Lexicographic.{pointwise, bytes_decides}
use Rattle.std.proofs.lemmas.List.{take-append-drop}
use Rattle.log_dictionary.specs.Fields.{after}
use Rattle.log_dictionary.proofs.lemmas.Splits.{after_again}
use Rattle.std.specs.Option.{option_map}
use Rattle.std.proofs.lemmas.Option.{same_Some}
use Rattle.ring_machine.specs.declared.steps.Barred.{Barred}
use Rattle.ring_machine.specs.declared.steps.Barred.TheVariants as bars
use Rattle.schedule_text.specs.declared.cause.ScheduleCause.{ScheduleCause}
use Rattle.ring_machine.specs.declared.view.RingView.{RingView}
use Rattle.ring_machine.specs.RingStates.{RingState}
use Rattle.ring_machine.specs.Steps.{event_barred, after_event, IsEvent}
use Rattle.ring_machine.specs.Rings.{new_rings, view_of}
use Rattle.schedule_text.specs.declared.cause.ScheduleCause.TheVariants as causes
use Rattle.schedule_text.specs.declared.playing.TheConstants.{MAX_STEPS}
use Rattle.schedule_text.specs.Causes.{bar_cause, told_bar}
use Rattle.schedule_text.specs.Lines.{NumberedStep, step_at, sizes_at, first_line_says}
use Rattle.schedule_text.specs.Printed.{event_text, positions_text, shown_text, event_line, ring_lines}
use Rattle.schedule_text.specs.Judged.{ScheduleOutcome, refused_at, printing, event_of, first_line, by_bar, by_line, steps_judged, rings_judged, head_judged, judged}

-- ---- one line, where so many more may be made

pub too_many : (left : ℕ) (rings : List RingState) (made : ℕ) (bytes : List ℕ) → left ≡ 0 → bytes ≢ [] → steps_judged left rings made bytes ≡ refused_at (made + 3) causes.TooMany
unfolding steps_judged
too_many left rings made [] none some = absurd (some refl)
too_many zero rings made (byte ∷ bytes) none some = refl
too_many (suc left) rings made (byte ∷ bytes) none some = absurd (omega (arith, none))

module _ (left : ℕ) (rings : List RingState) (made : ℕ) where
  abbrev behind : List RingState → List ℕ → ScheduleOutcome
  behind next rest = steps_judged left next (made + 1) rest

  abbrev by_test : NumberedStep → List ℕ → Option Barred → ScheduleOutcome
  by_test said rest o = by_bar o made (event_line (made + 1) (event_of said) (after_event rings (event_of said))) (behind (after_event rings (event_of said)) rest)

  pub no_step : (bytes : List ℕ) → bytes ≢ [] → first_line_says step_at bytes ≡ None → steps_judged (suc left) rings made bytes ≡ refused_at (made + 3) causes.Step
  unfolding steps_judged
  no_step [] some none = absurd (some refl)
  no_step (byte ∷ bytes) some none = ap (by_line behind rings made) none

  pub barred_step : (bytes : List ℕ) (said : NumberedStep) (rest : List ℕ) (bar : Barred) → bytes ≢ [] → first_line_says step_at bytes ≡ Some (said, rest) → event_barred rings (event_of said) ≡ Some bar
      → steps_judged (suc left) rings made bytes ≡ refused_at (made + 3) (bar_cause bar)
  unfolding steps_judged
  barred_step [] said rest bar some reads barred = absurd (some refl)
  barred_step (byte ∷ bytes) said rest bar some reads barred = ap (by_line behind rings made) reads ∙ ap (by_test said rest) barred

  pub step_on : (bytes : List ℕ) (said : NumberedStep) (rest : List ℕ) → bytes ≢ [] → first_line_says step_at bytes ≡ Some (said, rest) → event_barred rings (event_of said) ≡ None
      → steps_judged (suc left) rings made bytes
      ≡ printing (event_line (made + 1) (event_of said) (after_event rings (event_of said))) (steps_judged left (after_event rings (event_of said)) (made + 1) rest)
  unfolding steps_judged
  step_on [] said rest some reads unbarred = absurd (some refl)
  step_on (byte ∷ bytes) said rest some reads unbarred = ap (by_line behind rings made) reads ∙ ap (by_test said rest) unbarred

-- ---- the first line of a schedule, behind so many others

shown_is : (o : Option RingState) (view : RingView) → option_map view_of o ≡ Some view → shown_text o ≡ positions_text view
shown_is None view e = absurd cc
shown_is (Some s) view e = ap positions_text (same_Some (view_of s) view e)

-- one more may be made
one_more : (made : ℕ) → made < MAX_STEPS → MAX_STEPS - made ≡ suc (MAX_STEPS - (made + 1))
one_more made few = omega (arith, few)

module _ (rings : List RingState) (made : ℕ) (bytes : List ℕ) (some : bytes ≢ []) (few : made < MAX_STEPS) where
  abbrev left : ℕ
  left = MAX_STEPS - (made + 1)

  here : steps_judged (MAX_STEPS - made) rings made bytes ≡ steps_judged (suc left) rings made bytes
  here = ap (λ (n : ℕ). steps_judged n rings made bytes) (one_more made few)

  pub stops_unread : first_line_says step_at bytes ≡ None → steps_judged (MAX_STEPS - made) rings made bytes ≡ refused_at (made + 3) causes.Step
  stops_unread none = here ∙ no_step left rings made bytes some none

  pub stops_barred : (said : NumberedStep) (rest : List ℕ) (bar : Barred) → first_line_says step_at bytes ≡ Some (said, rest) → event_barred rings (event_of said) ≡ Some bar
      → steps_judged (MAX_STEPS - made) rings made bytes ≡ refused_at (made + 3) (bar_cause bar)
  stops_barred said rest bar reads barred = here ∙ barred_step left rings made bytes said rest bar some reads barred

  pub goes_on : (said : NumberedStep) (rest : List ℕ) (next : List RingState) (view : RingView) → first_line_says step_at bytes ≡ Some (said, rest) → IsEvent rings (event_of said) next
      → option_map view_of (slice_get next said.0) ≡ Some view
      → steps_judged (MAX_STEPS - made) rings made bytes ≡ printing (event_text (made + 1) (event_of said) ++ positions_text view) (steps_judged left next (made + 1) rest)
  goes_on said rest next view reads is shown =
      here
      ∙ step_on left rings made bytes said rest some reads is.not_barred
      ∙ ap (λ (rs : List RingState). printing (event_line (made + 1) (event_of said) rs) (steps_judged left rs (made + 1) rest)) (sym is.next_is)
      ∙ ap (λ (text : List ℕ). printing (event_text (made + 1) (event_of said) ++ text) (steps_judged left next (made + 1) rest)) (shown_is (slice_get next said.0) view shown)

pub at_end : (left : ℕ) (rings : List RingState) (made : ℕ) (bytes : List ℕ) → bytes ≡ [] → steps_judged left rings made bytes ≡ record { printed = ring_lines 0 rings; refused = None }
unfolding steps_judged
at_end left rings made [] none = refl
at_end left rings made (byte ∷ bytes) none = absurd cc

-- ---- what is shown of a ring

pub view_there : (rings : List RingState) (ring : ℕ) (view : RingView) → ring < length rings → IfSome (slice_get rings ring) (λ s. view ≡ view_of s) → option_map view_of (slice_get rings ring) ≡ Some view
view_there [] ring view within shown = absurd (omega (arith, within))
view_there (s ∷ rings) zero view within shown = ap Some (sym shown)
view_there (s ∷ rings) (suc ring) view within shown = view_there rings ring view (omega (arith, within)) shown

-- ---- the first two lines

pub head_steps : (text rest : List ℕ) (found : Option ((ℕ × ℕ) × List ℕ)) (rings words : ℕ) (steps : List ℕ) → after first_line text ≡ Some rest → found ≡ first_line_says sizes_at rest → found ≡ Some ((rings, words), steps)
    → judged text ≡ steps_judged MAX_STEPS (new_rings rings words) 0 steps
head_steps text rest found rings words steps first says is = ap head_judged first ∙ ap rings_judged (sym says ∙ is)

-- ---- what bars a step

some_cause : (a b : ScheduleCause) → Some a ≡ Some b → a ≡ b
some_cause a b e = cc

-- a cause that is told is that of what bars the step
pub cause_told : (bar : Barred) (cause : ScheduleCause) → told_bar bar ≡ Some cause → bar_cause bar ≡ cause
cause_told bars.Ring cause e = some_cause causes.Ring cause e
cause_told bars.Closed cause e = some_cause causes.Closed cause e
cause_told bars.MidFrame cause e = some_cause causes.MidFrame cause e
cause_told bars.BadWord cause e = some_cause causes.BadWord cause e
cause_told bars.AtEdge cause e = some_cause causes.AtEdge cause e
cause_told bars.NoRoom cause e = some_cause causes.NoRoom cause e
cause_told bars.Empty cause e = some_cause causes.Empty cause e
cause_told bars.Nothing cause e = some_cause causes.Nothing cause e
cause_told bars.NoMemory cause e = absurd cc

none_told : (cause : ScheduleCause) → ¬ (told_bar bars.NoMemory ≡ Some cause)
none_told cause e = cc

-- and it bars the step
pub bar_told : (bar : Barred) (cause : ScheduleCause) (o : Option Barred) → told_bar bar ≡ Some cause → (o ≡ Some bar) ⊎ ((bar ≡ bars.NoMemory) × (o ≡ None)) → o ≡ Some bar
bar_told bar cause o e (inl is) = is
bar_told bar cause o e (inr (is, none)) = absurd (none_told cause (ap told_bar (sym is) ∙ e))

-- a text that begins with the first line, and what follows it
pub front_is : (text rest : List ℕ) → pointwise eqb (take 19 text) first_line ≡ true → rest ≡ drop 19 text → after first_line text ≡ Some rest
front_is text rest front behind =
    ap (after first_line) (sym (take-append-drop 19 text) ∙ ap (λ (l : List ℕ). l ++ drop 19 text) ((bytes_decides (take 19 text) first_line).0 front) ∙ ap (λ (l : List ℕ). first_line ++ l) (sym behind))
    ∙ after_again first_line rest
