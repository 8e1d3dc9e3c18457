-- What a text comes to is one outcome, and is what its lines say.
use Rattle.std.proofs.Common.{◌≡◌, ◌≢◌, ℕ, zero, suc, ◌+◌, ◌-◌, ◌<◌, ◌≤◌, List, [], ◌∷◌, ◌++◌, length, codes, Option, Some, None, refl, sym, ap, ◌∙◌, subst, append_assoc, append-nil, inl, inr, arith}
use Rattle.std.specs.Prelude.{◌⊎◌}
use Rattle.std.specs.List.{flat_map, AllByRecursion}
use Rattle.std.proofs.lemmas.List.Concat.{flat_map-cons}
use Rattle.log_dictionary.specs.Fields.{after}
use Rattle.log_dictionary.proofs.lemmas.Splits.{after_again, after_takes}
use Rattle.ring_machine.specs.declared.steps.StepKind.{StepKind}
use Rattle.ring_machine.specs.declared.steps.StepKind.TheVariants as steps
use Rattle.ring_machine.specs.declared.steps.Event.{Event}
use Rattle.ring_machine.specs.declared.steps.Barred.{Barred}
use Rattle.ring_machine.specs.RingStates.{RingState}
use Rattle.ring_machine.specs.Steps.{event_barred, after_event, IsEvent, Run}
use Rattle.ring_machine.specs.Rings.{new_rings}
use Rattle.schedule_text.specs.declared.cause.ScheduleCause.{ScheduleCause}
use Rattle.schedule_text.specs.declared.cause.ScheduleCause.TheVariants as causes
use Rattle.schedule_text.specs.declared.playing.TheConstants.{MAX_STEPS}
use Rattle.schedule_text.specs.Causes.{bar_cause}
use Rattle.schedule_text.specs.StepLines.{step_line, FitsStep}
use Rattle.schedule_text.specs.Lines.{NumberedStep, step_at, sizes_at, first_line_says}
use Rattle.schedule_text.specs.Printed.{event_line, ring_lines}
use Rattle.schedule_text.specs.Judged.{ScheduleOutcome, refused_at, printing, event_of, line_number, first_line, steps_judged, rings_judged, head_judged, judged}
use Rattle.schedule_text.specs.Schedules.{Schedule, AreSizes, rings_line, schedule_text, IsPlayed, event_lines, played_lines, HeadBreak, StepBreak, RefusesStep, ScheduleText, ScheduleBreak, ComesTo}
use Rattle.schedule_text.proofs.Judging.{too_many, no_step, barred_step, step_on, at_end}
use Rattle.schedule_text.proofs.LineReading.{step_read, step_taken, sizes_read, sizes_taken}

some_line : (event : Event) (rest : List ℕ) → step_line event ++ rest ≢ []
some_line event rest = by_step event.ring event.step
  where
    by_step : (ring : ℕ) (step : StepKind) → step_line (event_of (ring, step)) ++ rest ≢ []
    by_step ring steps.Look e = cc
    by_step ring (steps.Store word) e = cc
    by_step ring steps.Skip e = cc
    by_step ring steps.Publish e = cc
    by_step ring steps.Close e = cc
    by_step ring steps.Load e = cc
    by_step ring steps.Read e = cc
    by_step ring steps.Release e = cc

-- ---- what the lines of steps come to

-- events, and the bytes behind their lines
pub record StepsCome (rings : List RingState) (made left : ℕ) (bytes : List ℕ) (outcome : ScheduleOutcome) : Type 0 where
  pub events : List Event
  pub last : List RingState
  pub rest : List ℕ
  pub joined : bytes ≡ flat_map step_line events ++ rest
  pub fits : AllByRecursion FitsStep events
  pub run : Run rings events last
  pub few : length events ≤ left
  pub ends :
      ((rest ≡ []) × (outcome ≡ record { printed = event_lines made rings events ++ ring_lines 0 last; refused = None }))
      ⊎ ((cause : ScheduleCause) × (rest ≢ []) × StepBreak last (made + length events) rest cause
      × (outcome ≡ record { printed = event_lines made rings events; refused = Some (line_number (made + length events), cause) }))

module _ (rings : List RingState) (made left : ℕ) (bytes : List ℕ) where
  -- the first line is refused
  first_refused : (outcome : ScheduleOutcome) (cause : ScheduleCause) → bytes ≢ [] → StepBreak rings made bytes cause → outcome ≡ refused_at (line_number made) cause → StepsCome rings made left bytes outcome
  first_refused outcome cause some breaks is =
      let same : made + 0 ≡ made = omega arith in
      record {
        events = [];
        last = rings;
        rest = bytes;
        joined = refl;
        fits = tt;
        run = refl;
        few = omega arith;
        ends = inr (
          cause,
          some,
          subst (λ (n : ℕ). StepBreak rings n bytes cause) (sym same) breaks,
          is ∙ ap (λ (n : ℕ). refused_at (line_number n) cause) (sym same),
        );
      }

  -- the first line is that of an event, and the others come to this
  first_made : (next : List RingState) (event : Event) (rest : List ℕ) (outcome : ScheduleOutcome) → bytes ≡ step_line event ++ rest → FitsStep event → IsEvent rings event next → StepsCome next (made + 1) left rest outcome
      → StepsCome rings made (suc left) bytes (printing (event_line (made + 1) event (after_event rings event)) outcome)
  first_made next event rest outcome joined fits is more =
      let count : (made + 1) + length more.events ≡ made + suc (length more.events) = omega arith in
      let line = event_line (made + 1) event (after_event rings event) in
      let lines : event_lines (made + 1) next more.events ≡ event_lines (made + 1) (after_event rings event) more.events = ap (λ (rs : List RingState). event_lines (made + 1) rs more.events) is.next_is in
      record {
        events = event ∷ more.events;
        last = more.last;
        rest = more.rest;
        joined =
            joined ∙ ap (λ (l : List ℕ). step_line event ++ l) more.joined
            ∙ sym (append_assoc (step_line event) (flat_map step_line more.events) more.rest)
            ∙ ap (λ (l : List ℕ). l ++ more.rest) (sym (flat_map-cons step_line event more.events));
        fits = (fits, more.fits);
        run = (next, is, more.run);
        few = omega (arith, more.few);
        ends = elim more.ends [
          | inl (none, whole) ↦ inl (
            none,
            ap (printing line) whole
                ∙ ap (λ (l : List ℕ). record { printed = l; refused = None }) (sym (append_assoc line (event_lines (made + 1) next more.events) (ring_lines 0 more.last)) ∙ ap (λ (l : List ℕ). line ++ l ++ ring_lines 0 more.last) lines),
          )
          | inr (cause, some, breaks, whole) ↦ inr (
            cause,
            some,
            subst (λ (n : ℕ). StepBreak more.last n more.rest cause) count breaks,
            ap (printing line) whole ∙ (λ i. record { printed = line ++ lines i; refused = Some (line_number (count i), cause) }),
          )
        ];
      }

module _ (left : ℕ) (rings : List RingState) (made : ℕ) (bytes : List ℕ) (some : bytes ≢ []) (room : made < MAX_STEPS)
    (behind : (next : List RingState) (rest : List ℕ) → StepsCome next (made + 1) left rest (steps_judged left next (made + 1) rest)) where
  by_bar : (said : NumberedStep) (rest : List ℕ) → first_line_says step_at bytes ≡ Some (said, rest) → (o : Option Barred) → event_barred rings (event_of said) ≡ o
      → StepsCome rings made (suc left) bytes (steps_judged (suc left) rings made bytes)
  by_bar said rest reads (Some bar) barred =
      let says = step_taken bytes said rest reads in
      first_refused rings made (suc left) bytes (steps_judged (suc left) rings made bytes) (bar_cause bar) some (inr (inr (room, (event_of said, rest, bar, says.fits, says.joined, barred, refl)))) (barred_step left rings made bytes said rest bar some reads barred)
  by_bar said rest reads None barred =
      let says = step_taken bytes said rest reads in
      let next = after_event rings (event_of said) in
      subst (StepsCome rings made (suc left) bytes) (sym (step_on left rings made bytes said rest some reads barred))
      (first_made rings made left bytes next (event_of said) rest (steps_judged left next (made + 1) rest) says.joined says.fits (record { not_barred = barred; next_is = refl }) (behind next rest))

  none_read : (said : NumberedStep) (rest : List ℕ) → ¬ (◌≡◌ {A = Option (NumberedStep × List ℕ)} None (Some (said, rest)))
  none_read said rest e = cc

  steps_from : (o : Option (NumberedStep × List ℕ)) → first_line_says step_at bytes ≡ o → StepsCome rings made (suc left) bytes (steps_judged (suc left) rings made bytes)
  steps_from None unread =
      first_refused rings made (suc left) bytes (steps_judged (suc left) rings made bytes) causes.Step some
      (inr (inl (room, (λ event rest fits is. none_read (event.ring, event.step) rest (sym unread ∙ ap (first_line_says step_at) is ∙ step_read (event.ring, event.step) rest fits)), refl)))
      (no_step left rings made bytes some unread)
  steps_from (Some (said, rest)) reads = by_bar said rest reads (event_barred rings (event_of said)) refl

pub steps_come : (left : ℕ) (rings : List RingState) (made : ℕ) (bytes : List ℕ) → made + left ≡ MAX_STEPS → StepsCome rings made left bytes (steps_judged left rings made bytes)
steps_come left rings made [] all = record {
  events = [];
  last = rings;
  rest = [];
  joined = refl;
  fits = tt;
  run = refl;
  few = omega arith;
  ends = inl (refl, at_end left rings made [] refl);
}
steps_come zero rings made (byte ∷ bytes) all =
    first_refused rings made zero (byte ∷ bytes) (steps_judged zero rings made (byte ∷ bytes)) causes.TooMany (λ e. cc) (inl (omega (arith, all), refl)) (too_many zero rings made (byte ∷ bytes) refl (λ e. cc))
steps_come (suc left) rings made (byte ∷ bytes) all =
    steps_from left rings made (byte ∷ bytes) (λ e. cc) (omega (arith, all)) (λ next rest. steps_come left next (made + 1) rest (omega (arith, all))) (first_line_says step_at (byte ∷ bytes)) refl

-- ---- and the other way

-- behind the lines of events that happen, the lines come to what those behind them do
pub steps_on : (events : List Event) (left : ℕ) (rings last : List RingState) (made : ℕ) (rest : List ℕ) → Run rings events last → AllByRecursion FitsStep events → length events ≤ left
    → steps_judged left rings made (flat_map step_line events ++ rest)
    ≡ printing (event_lines made rings events) (steps_judged (left - length events) last (made + length events) rest)
steps_on [] left rings last made rest run fits few =
    let none : made + 0 ≡ made = omega arith in
    let all : left - 0 ≡ left = omega arith in
    λ i. steps_judged (sym all i) (sym run i) (sym none i) rest
steps_on (event ∷ events) zero rings last made rest run fits few = absurd (omega (arith, few))
steps_on (event ∷ events) (suc left) rings last made rest (next, is, run) (fit, fits) few =
    let behind = flat_map step_line events ++ rest in
    let joined : flat_map step_line (event ∷ events) ++ rest ≡ step_line event ++ behind =
    ap (λ (l : List ℕ). l ++ rest) (flat_map-cons step_line event events) ∙ append_assoc (step_line event) (flat_map step_line events) rest in
    let count : (made + 1) + length events ≡ made + suc (length events) = omega arith in
    let fewer : left - length events ≡ suc left - suc (length events) = omega arith in
    let line = event_line (made + 1) event (after_event rings event) in
    ap (steps_judged (suc left) rings made) joined
    ∙ step_on left rings made (step_line event ++ behind) (event.ring, event.step) behind (some_line event behind) (step_read (event.ring, event.step) behind fit) is.not_barred
    ∙ ap (λ (rs : List RingState). printing line (steps_judged left rs (made + 1) behind)) (sym is.next_is)
    ∙ ap (printing line) (steps_on events left next last (made + 1) rest run fits (omega (arith, few)))
    ∙ (λ i. record {
      printed = sym (append_assoc line (event_lines (made + 1) next events) (steps_judged (left - length events) last (count i) rest).printed) i;
      refused = (steps_judged (left - length events) last (count i) rest).refused;
    })
    ∙ ap (λ (rs : List RingState). printing (line ++ event_lines (made + 1) rs events) (steps_judged (left - length events) last (made + suc (length events)) rest)) is.next_is
    ∙ ap (λ (n : ℕ). printing (line ++ event_lines (made + 1) (after_event rings event) events) (steps_judged n last (made + suc (length events)) rest)) fewer

-- a line that is refused
breaks_judged : (left : ℕ) (rings : List RingState) (made : ℕ) (bytes : List ℕ) (cause : ScheduleCause) → made + left ≡ MAX_STEPS → bytes ≢ [] → StepBreak rings made bytes cause → steps_judged left rings made bytes ≡ refused_at (line_number made) cause
breaks_judged left rings made bytes cause all some (inl (full, is)) = too_many left rings made bytes (omega (arith, all, full)) some ∙ ap (refused_at (line_number made)) (sym is)
breaks_judged zero rings made bytes cause all some (inr breaks) = absurd (elim breaks [ inl unread ↦ omega (arith, all, unread.0) | inr barred ↦ omega (arith, all, barred.0) ])
breaks_judged (suc left) rings made bytes cause all some (inr (inl (room, none, is))) = no_step left rings made bytes some (unread (first_line_says step_at bytes) refl) ∙ ap (refused_at (line_number made)) (sym is)
  where
    unread : (o : Option (NumberedStep × List ℕ)) → first_line_says step_at bytes ≡ o → first_line_says step_at bytes ≡ None
    unread None e = e
    unread (Some (said, rest)) e = let says = step_taken bytes said rest e in absurd (none (event_of said) rest says.fits says.joined)
breaks_judged (suc left) rings made bytes cause all some (inr (inr (room, (event, rest, bar, fits, joined, barred, is)))) =
    barred_step left rings made bytes (event.ring, event.step) rest bar some (ap (first_line_says step_at) joined ∙ step_read (event.ring, event.step) rest fits) barred ∙ ap (refused_at (line_number made)) (sym is)

-- ---- a whole text

text_joined : (s : Schedule) (rest : List ℕ) → schedule_text s ++ rest ≡ first_line ++ (rings_line s.rings s.words ++ (flat_map step_line s.events ++ rest))
text_joined s rest = simp append_assoc

-- a text that begins with that of a schedule which is played
text_judged : (s : Schedule) (last : List RingState) (rest : List ℕ) → IsPlayed s last
    → judged (schedule_text s ++ rest) ≡ printing (played_lines s) (steps_judged (MAX_STEPS - length s.events) last (length s.events) rest)
text_judged s last rest played =
    let steps = flat_map step_line s.events ++ rest in
    let count : 0 + length s.events ≡ length s.events = omega arith in
    ap judged (text_joined s rest)
    ∙ ap head_judged (after_again first_line (rings_line s.rings s.words ++ steps))
    ∙ ap rings_judged (sizes_read s.rings s.words steps played.sizes)
    ∙ steps_on s.events MAX_STEPS (new_rings s.rings s.words) last 0 rest played.run played.fits played.few
    ∙ ap (λ (n : ℕ). printing (played_lines s) (steps_judged (MAX_STEPS - length s.events) last n rest)) count

pub only_judged : (bytes : List ℕ) (outcome : ScheduleOutcome) → ComesTo bytes outcome → judged bytes ≡ outcome
only_judged bytes outcome (inl (s, last, text, is)) =
    ap judged (text.spelled ∙ sym (append-nil (schedule_text s)))
    ∙ text_judged s last [] text.played
    ∙ ap (printing (played_lines s)) (at_end (MAX_STEPS - length s.events) last (length s.events) [] refl)
    ∙ sym is
only_judged bytes outcome (inr (inl (line, inl (first, none), is))) =
    ap head_judged (none_after (after first_line bytes) refl) ∙ ap (λ (n : ℕ). refused_at n causes.Header) (sym first) ∙ sym is
  where
    none_after : (o : Option (List ℕ)) → after first_line bytes ≡ o → after first_line bytes ≡ None
    none_after None e = e
    none_after (Some rest) e = absurd (none rest (after_takes first_line bytes rest e))
only_judged bytes outcome (inr (inl (line, inr (second, (rest, joined, none)), is))) =
    ap judged joined ∙ ap head_judged (after_again first_line rest) ∙ ap rings_judged (no_sizes (first_line_says sizes_at rest) refl)
    ∙ ap (λ (n : ℕ). refused_at n causes.Header) (sym second) ∙ sym is
  where
    no_sizes : (o : Option ((ℕ × ℕ) × List ℕ)) → first_line_says sizes_at rest ≡ o → first_line_says sizes_at rest ≡ None
    no_sizes None e = e
    no_sizes (Some (sizes, more)) e = let says = sizes_taken rest sizes more e in absurd (none sizes.0 sizes.1 more says.are says.joined)
only_judged bytes outcome (inr (inr (s, line, cause, breaks, is))) =
    let n = length s.events in
    let whole : played_lines s ++ [] ≡ played_lines s = append-nil (played_lines s) in
    ap judged breaks.joined
    ∙ text_judged s breaks.last breaks.rest breaks.played
    ∙ ap (printing (played_lines s)) (breaks_judged (MAX_STEPS - n) breaks.last n breaks.rest cause (omega (arith, breaks.played.few)) breaks.some breaks.breaks)
    ∙ (λ i. record { printed = whole i; refused = Some (sym breaks.line_is i, cause) })
    ∙ sym is

-- what it comes to is what its lines say
steps_text : (first second : List ℕ) (sizes : ℕ × ℕ) (bytes : List ℕ) → AreSizes sizes.0 sizes.1 → bytes ≡ first_line ++ (rings_line sizes.0 sizes.1 ++ second) → ComesTo bytes (steps_judged MAX_STEPS (new_rings sizes.0 sizes.1) 0 second)
steps_text first second sizes bytes are joined =
    let came = steps_come MAX_STEPS (new_rings sizes.0 sizes.1) 0 second refl in
    let s : Schedule = record { rings = sizes.0; words = sizes.1; events = came.events } in
    let played : IsPlayed s came.last = record { sizes = are; few = came.few; fits = came.fits; run = came.run } in
    let whole : bytes ≡ schedule_text s ++ came.rest = joined ∙ ap (λ (l : List ℕ). first_line ++ (rings_line sizes.0 sizes.1 ++ l)) came.joined ∙ sym (text_joined s came.rest) in
    let count : 0 + length came.events ≡ length came.events = omega arith in
    elim came.ends [
      | inl (none, is) ↦ inl (s, came.last, record { spelled = whole ∙ ap (λ (l : List ℕ). schedule_text s ++ l) none ∙ append-nil (schedule_text s); played = played }, is)
      | inr (cause, some, breaks, is) ↦ inr (inr (
        s,
        line_number (length came.events),
        cause,
        record {
          last = came.last;
          rest = came.rest;
          joined = whole;
          some = some;
          played = played;
          line_is = refl;
          breaks = subst (λ (n : ℕ). StepBreak came.last n came.rest cause) count breaks;
        },
        is ∙ (λ i. record { printed = played_lines s; refused = Some (line_number (count i), cause) }),
      ))
    ]

rings_text : (bytes rest : List ℕ) (o : Option ((ℕ × ℕ) × List ℕ)) → bytes ≡ first_line ++ rest → first_line_says sizes_at rest ≡ o → ComesTo bytes (rings_judged o)
rings_text bytes rest None joined e =
    inr (inl (2, inr (refl, (rest, joined, λ rings words more are is. none_read (sym e ∙ ap (first_line_says sizes_at) is ∙ sizes_read rings words more are))), refl))
  where
    none_read : {said : (ℕ × ℕ) × List ℕ} → None ≡ Some said → ⊥
    none_read e = cc
rings_text bytes rest (Some (sizes, more)) joined e =
    let says = sizes_taken rest sizes more e in
    steps_text rest more sizes bytes says.are (joined ∙ ap (λ (l : List ℕ). first_line ++ l) says.joined)

head_text : (bytes : List ℕ) (o : Option (List ℕ)) → after first_line bytes ≡ o → ComesTo bytes (head_judged o)
head_text bytes None e = inr (inl (1, inl (refl, λ rest is. none_after (sym e ∙ ap (after first_line) is ∙ after_again first_line rest)), refl))
  where
    none_after : {rest : List ℕ} → None ≡ Some rest → ⊥
    none_after e = cc
head_text bytes (Some rest) e = rings_text bytes rest (first_line_says sizes_at rest) (after_takes first_line bytes rest e) refl

pub comes_judged : (bytes : List ℕ) → ComesTo bytes (judged bytes)
comes_judged bytes = head_text bytes (after first_line bytes) refl

-- ---- one of both

pub one_holds : (bytes : List ℕ) → ((s : Schedule) × (last : List RingState) × ScheduleText bytes s last) ⊎ ((line : ℕ) × (cause : ScheduleCause) × ScheduleBreak bytes line cause)
one_holds bytes = elim (comes_judged bytes) [
  | inl (s, last, text, is) ↦ inl (s, last, text)
  | inr (inl (line, breaks, is)) ↦ inr (line, causes.Header, inl (breaks, refl))
  | inr (inr (s, line, cause, breaks, is)) ↦ inr (line, cause, inr (s, breaks))
]

-- a text that is refused comes to that
refusal_is : (bytes : List ℕ) (line : ℕ) (cause : ScheduleCause) → ScheduleBreak bytes line cause → (judged bytes).refused ≡ Some (line, cause)
refusal_is bytes line cause (inl (breaks, is)) = ap (λ (o : ScheduleOutcome). o.refused) (only_judged bytes (refused_at line causes.Header) (inr (inl (line, breaks, refl)))) ∙ ap (λ (c : ScheduleCause). Some (line, c)) (sym is)
refusal_is bytes line cause (inr (s, breaks)) = ap (λ (o : ScheduleOutcome). o.refused) (only_judged bytes (record { printed = played_lines s; refused = Some (line, cause) }) (inr (inr (s, line, cause, breaks, refl))))

no_refusal : (line : ℕ) (cause : ScheduleCause) → ¬ (◌≡◌ {A = Option (ℕ × ScheduleCause)} None (Some (line, cause)))
no_refusal line cause e = cc

pub not_both : (bytes : List ℕ) (s : Schedule) (last : List RingState) (line : ℕ) (cause : ScheduleCause) → ScheduleText bytes s last → ¬ (ScheduleBreak bytes line cause)
not_both bytes s last line cause text breaks =
    let none : (judged bytes).refused ≡ None = ap (λ (o : ScheduleOutcome). o.refused) (only_judged bytes (record { printed = played_lines s ++ ring_lines 0 last; refused = None }) (inl (s, last, text, refl))) in
    no_refusal line cause (sym none ∙ refusal_is bytes line cause breaks)

same_pair : (i j : ℕ) (a b : ScheduleCause) → ◌≡◌ {A = Option (ℕ × ScheduleCause)} (Some (i, a)) (Some (j, b)) → (i ≡ j) × (a ≡ b)
same_pair i j a b e = let same : ◌≡◌ {A = ℕ × ScheduleCause} (i, a) (j, b) = cc in (ap (λ (p : ℕ × ScheduleCause). p.0) same, ap (λ (p : ℕ × ScheduleCause). p.1) same)

pub one_break : (bytes : List ℕ) (i j : ℕ) (a b : ScheduleCause) → ScheduleBreak bytes i a → ScheduleBreak bytes j b → (i ≡ j) × (a ≡ b)
one_break bytes i j a b first second = same_pair i j a b (sym (refusal_is bytes i a first) ∙ refusal_is bytes j b second)
