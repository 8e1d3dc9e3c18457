-- Long lines say nothing, and the first bytes of a long text decide what it comes to.
use Rattle.std.proofs.Common.{◌≡◌, ℕ, ◌+◌, ◌*◌, ◌-◌, ◌<◌, ◌≤◌, ◌^◌, List, [], ◌∷◌, ◌++◌, length, take, drop, codes, Option, Some, None, refl, sym, ap, ◌∙◌, append_assoc, inl, inr, arith}
use Rattle.std.specs.Prelude.{decimal}
use Rattle.std.specs.List.{flat_map, AllByRecursion}
use Rattle.std.proofs.lemmas.Fmt.{length-decimal-le}
use Rattle.std.proofs.lemmas.List.{take_at, take-append-drop, take-append-le, length-append}
use Rattle.std.proofs.lemmas.List.Concat.{flat_map-cons}
use Rattle.nl_io.proofs.lemmas.TextWriters.{filled-left}
use Rattle.ring_machine.specs.declared.steps.StepKind.{StepKind}
use Rattle.ring_machine.specs.declared.steps.StepKind.TheVariants as steps
use Rattle.ring_machine.specs.declared.steps.Event.{Event}
use Rattle.ring_machine.specs.RingStates.{RingState}
use Rattle.schedule_text.specs.declared.cause.ScheduleCause.{ScheduleCause}
use Rattle.schedule_text.specs.declared.playing.TheConstants.{MAX_STEPS, MAX_TEXT}
use Rattle.schedule_text.specs.StepLines.{step_name, step_word, step_line, FitsWord, FitsStep}
use Rattle.schedule_text.specs.Lines.{NumberedStep, step_at, sizes_at}
use Rattle.schedule_text.specs.Judged.{ScheduleOutcome, event_of, first_line, judged}
use Rattle.schedule_text.specs.Schedules.{Schedule, AreSizes, rings_line, schedule_text, IsPlayed, HeadBreak, StepBreak, ComesTo}
use Rattle.schedule_text.proofs.LineReading.{step_bytes, step_line-bytes, step_spelled, rings_bytes, rings_line-bytes, sizes_spelled}
use Rattle.schedule_text.proofs.lemmas.JudgedLaws.{comes_judged, only_judged}

-- ---- how long lines are

name_short : (step : StepKind) → length (step_name step) ≤ 7
name_short steps.Look = omega arith
name_short (steps.Store word) = omega arith
name_short steps.Skip = omega arith
name_short steps.Publish = omega arith
name_short steps.Close = omega arith
name_short steps.Load = omega arith
name_short steps.Read = omega arith
name_short steps.Release = omega arith

number_short : (n : ℕ) → n < 2 ^ 64 → length (decimal n) ≤ 20
number_short n small = length-decimal-le 20 n (omega arith) (omega (arith, small)) small

word_short : (step : StepKind) → FitsWord step → length (step_word step) ≤ 21
word_short (steps.Store word) fits = omega (arith, number_short word fits)
word_short steps.Look fits = omega arith
word_short steps.Skip fits = omega arith
word_short steps.Publish fits = omega arith
word_short steps.Close fits = omega arith
word_short steps.Load fits = omega arith
word_short steps.Read fits = omega arith
word_short steps.Release fits = omega arith

-- a line of a step has 50 bytes at most
step_short : (event : Event) → FitsStep event → length (step_line event) ≤ 50
step_short event fits = omega (
  arith,
  length-append (step_name event.step ++ 32 ∷ decimal event.ring ++ step_word event.step) (10 ∷ []),
  length-append (step_name event.step ++ 32 ∷ decimal event.ring) (step_word event.step),
  length-append (step_name event.step) (32 ∷ decimal event.ring),
  name_short event.step,
  number_short event.ring fits.ring,
  word_short event.step fits.word,
)

steps_short : (events : List Event) → AllByRecursion FitsStep events → length (flat_map step_line events) ≤ 50 * length events
steps_short [] fits = omega arith
steps_short (event ∷ events) (fit, fits) = omega (
  arith,
  ap (λ (l : List ℕ). length l) (flat_map-cons step_line event events),
  length-append (step_line event) (flat_map step_line events),
  step_short event fit,
  steps_short events fits,
)

rings_short : (rings words : ℕ) → AreSizes rings words → length (rings_line rings words) ≤ 48
rings_short rings words are = omega (
  arith,
  length-append (codes "rings " ++ decimal rings ++ 32 ∷ decimal words) (10 ∷ []),
  length-append (codes "rings " ++ decimal rings) (32 ∷ decimal words),
  length-append (codes "rings ") (decimal rings),
  number_short rings (omega (arith, are.few_rings)),
  number_short words (omega (arith, are.most)),
)

text_short : (s : Schedule) (last : List RingState) → IsPlayed s last → length (schedule_text s) ≤ 67 + 50 * MAX_STEPS
text_short s last played = omega (
  arith,
  length-append (first_line ++ rings_line s.rings s.words) (flat_map step_line s.events),
  length-append first_line (rings_line s.rings s.words),
  rings_short s.rings s.words played.sizes,
  steps_short s.events played.fits,
  played.few,
)

-- ---- lines that are too long

-- a line of more than 64 bytes is that of no step
pub long_step : (line : List ℕ) → 64 < length line → step_at line ≡ None
long_step line long = by_said (step_at line) refl
  where
    by_said : (o : Option NumberedStep) → step_at line ≡ o → step_at line ≡ None
    by_said None e = e
    by_said (Some said) e =
        let spelled = step_spelled line said e in
        absurd (omega (
          arith,
          long,
          ap (λ (l : List ℕ). length l) spelled.0,
          ap (λ (l : List ℕ). length l) (step_line-bytes said []),
          length-append (step_line (event_of said)) [],
          length-append (step_bytes said) (10 ∷ []),
          step_short (event_of said) spelled.1,
        ))

-- and that of no rings
pub long_rings : (line : List ℕ) → 64 < length line → sizes_at line ≡ None
long_rings line long = by_said (sizes_at line) refl
  where
    by_said : (o : Option (ℕ × ℕ)) → sizes_at line ≡ o → sizes_at line ≡ None
    by_said None e = e
    by_said (Some sizes) e =
        let spelled = sizes_spelled line sizes e in
        absurd (omega (
          arith,
          long,
          ap (λ (l : List ℕ). length l) spelled.0,
          ap (λ (l : List ℕ). length l) (rings_line-bytes sizes.0 sizes.1 []),
          length-append (rings_line sizes.0 sizes.1) [],
          length-append (rings_bytes sizes.0 sizes.1) (10 ∷ []),
          rings_short sizes.0 sizes.1 spelled.1,
        ))

-- ---- bytes that go on

-- a line with which longer bytes begin is one with which the bytes begin
front_within : (bytes more line rest : List ℕ) → bytes ++ more ≡ line ++ rest → length line ≤ length bytes → bytes ≡ line ++ drop (length line) bytes
front_within bytes more line rest joined short =
    let n = length line in
    let front : take n bytes ≡ line = sym (take-append-le n bytes more short) ∙ ap (take n) joined ∙ take_at line rest n refl in
    sym (take-append-drop n bytes) ∙ ap (λ (l : List ℕ). l ++ drop n bytes) front

head_goes_on : (bytes more : List ℕ) (line : ℕ) → MAX_TEXT ≤ length bytes → HeadBreak bytes line → HeadBreak (bytes ++ more) line
head_goes_on bytes more line long (inl (first, none)) = inl (first, λ rest is. none (drop (length first_line) bytes) (front_within bytes more first_line rest is (omega (arith, long))))
head_goes_on bytes more line long (inr (second, (rest, joined, none))) =
    let enough : 48 ≤ length rest = omega (arith, long, ap (λ (l : List ℕ). length l) joined, length-append first_line rest) in
    inr (
      second,
      (
        rest ++ more,
        ap (λ (l : List ℕ). l ++ more) joined ∙ append_assoc first_line rest more,
        λ rings words behind are is. none rings words (drop (length (rings_line rings words)) rest) are (front_within rest more (rings_line rings words) behind is (omega (arith, enough, rings_short rings words are))),
      ),
    )

step_goes_on : (rings : List RingState) (made : ℕ) (rest more : List ℕ) (cause : ScheduleCause) → 50 ≤ length rest → StepBreak rings made rest cause → StepBreak rings made (rest ++ more) cause
step_goes_on rings made rest more cause enough (inl full) = inl full
step_goes_on rings made rest more cause enough (inr (inl (room, none, is))) =
    inr (inl (room, (λ event behind fits joined. none event (drop (length (step_line event)) rest) fits (front_within rest more (step_line event) behind joined (omega (arith, enough, step_short event fits)))), is))
step_goes_on rings made rest more cause enough (inr (inr (room, (event, behind, bar, fits, joined, barred, is)))) =
    inr (inr (room, (event, behind ++ more, bar, fits, ap (λ (l : List ℕ). l ++ more) joined ∙ append_assoc (step_line event) behind more, barred, is)))

goes_on : (bytes more : List ℕ) (outcome : ScheduleOutcome) → MAX_TEXT ≤ length bytes → ComesTo bytes outcome → ComesTo (bytes ++ more) outcome
goes_on bytes more outcome long (inl (s, last, text, is)) = absurd (omega (arith, long, ap (λ (l : List ℕ). length l) text.spelled, text_short s last text.played))
goes_on bytes more outcome long (inr (inl (line, breaks, is))) = inr (inl (line, head_goes_on bytes more line long breaks, is))
goes_on bytes more outcome long (inr (inr (s, line, cause, breaks, is))) =
    let enough : 50 ≤ length breaks.rest = omega (arith, long, ap (λ (l : List ℕ). length l) breaks.joined, length-append (schedule_text s) breaks.rest, text_short s breaks.last breaks.played) in
    inr (inr (
      s,
      line,
      cause,
      record {
        last = breaks.last;
        rest = breaks.rest ++ more;
        joined = ap (λ (l : List ℕ). l ++ more) breaks.joined ∙ append_assoc (schedule_text s) breaks.rest more;
        some = filled-left breaks.rest more breaks.some;
        played = breaks.played;
        line_is = breaks.line_is;
        breaks = step_goes_on breaks.last (length s.events) breaks.rest more cause enough breaks.breaks;
      },
      is,
    ))

-- bytes of the greatest length of a text decide what longer ones come to
pub front_decides : (bytes more : List ℕ) → MAX_TEXT ≤ length bytes → judged (bytes ++ more) ≡ judged bytes
front_decides bytes more long = only_judged (bytes ++ more) (judged bytes) (goes_on bytes more (judged bytes) long (comes_judged bytes))
