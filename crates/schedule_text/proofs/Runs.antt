-- What is printed of a schedule, on its way to the output.
use Rattle.std.proofs.Common.{◌≡◌, ℕ, List, [], ◌∷◌, ◌++◌, Option, Some, None, Result, Ok, Err, refl, sym, ap, subst, ◌∙◌, append_assoc, append-nil}
use Rattle.nl_io.specs.Content.{Told, with_end, PutsFront}
use Rattle.nl_io.specs.TextWriters.{Carries, IsCutOff}
use Rattle.nl_io.proofs.lemmas.TextWriters.{carries_held, carries_more, carries_all, carries_front, cut_held, cut_more}
use Rattle.ring_machine.specs.RingStates.{RingState}
use Rattle.schedule_text.specs.declared.cause.ScheduleCause.{ScheduleCause}
use Rattle.schedule_text.specs.declared.playing.ScheduleFault.{ScheduleFault}
use Rattle.schedule_text.specs.declared.playing.ScheduleFault.TheVariants as faults
use Rattle.schedule_text.specs.Printed.{ring_lines}
use Rattle.schedule_text.specs.Judged.{ScheduleOutcome, printing}
use Rattle.schedule_text.specs.Playing.{StopsInHead, RunsSteps, Plays}

-- a front of what an outcome prints is put or held back, and the rest is what this outcome prints
pub record Front (outcome here : ScheduleOutcome) (was is : Told) (held : List ℕ) : Type 0 where
  pub text : List ℕ
  pub carries : Carries text was is held
  pub judged : outcome ≡ printing text here

pub front_none : (outcome : ScheduleOutcome) (was : Told) (held : List ℕ) → held ≡ [] → Front outcome outcome was was held
front_none outcome was held none = record { text = []; carries = carries_held [] held was none; judged = refl }

module _ (outcome here : ScheduleOutcome) (was mid : Told) (held : List ℕ) (front : Front outcome here was mid held) where
  -- a line more
  pub front_more : (next : ScheduleOutcome) (line left : List ℕ) (is : Told) → here ≡ printing line next → Carries (held ++ line) mid is left → Front outcome next was is left
  front_more next line left is goes more = record {
    text = front.text ++ line;
    carries = carries_more (front.text ++ line) front.text line held left was mid is refl front.carries more;
    judged =
        front.judged ∙ ap (printing front.text) goes
        ∙ ap (λ (text : List ℕ). record { printed = text; refused = next.refused }) (sym (append_assoc front.text line next.printed));
  }

  -- a line was cut off
  pub front_cut : (next : ScheduleOutcome) (line : List ℕ) (is : Told) (before now after : ℕ) → here ≡ printing line next → now ≡ before → IsCutOff (held ++ line) mid is now after
      → IsCutOff outcome.printed was is before after
  front_cut next line is before now after goes same cut =
      cut_more outcome.printed front.text line next.printed held was mid is before now after
      (ap (λ (o : ScheduleOutcome). o.printed) (front.judged ∙ ap (printing front.text) goes) ∙ sym (append_assoc front.text line next.printed))
      front.carries same cut

  -- a line is refused, or memory was wanting
  pub front_stops : (rings : List RingState) (fault : ScheduleFault) (before after : ℕ) → StopsInHead here fault → after ≡ before → RunsSteps outcome rings was mid before after held (Err fault)
  front_stops rings (faults.Refused line cause) before after stops counted =
      let whole : outcome ≡ record { printed = front.text ++ []; refused = Some (line, cause) } = front.judged ∙ ap (printing front.text) stops in (
        (subst (λ (text : List ℕ). Carries text was mid held) (sym (ap (λ (o : ScheduleOutcome). o.printed) whole ∙ append-nil front.text)) front.carries, ap (λ (o : ScheduleOutcome). o.refused) whole),
        counted,
      )
  front_stops rings faults.WriteFault before after stops counted = absurd stops
  front_stops rings faults.NoMemory before after stops counted =
      (carries_front outcome.printed front.text here.printed held was mid (ap (λ (o : ScheduleOutcome). o.printed) front.judged) front.carries, counted)

  -- all steps were made
  pub front_done : (rings : List RingState) (before after : ℕ) → here ≡ record { printed = ring_lines 0 rings; refused = None } → after ≡ before → RunsSteps outcome rings was mid before after held (Ok tt)
  front_done rings before after ends counted = ((front.text, front.carries, front.judged ∙ ap (printing front.text) ends), counted)

-- ---- the end

module _ (outcome : ScheduleOutcome) (rings : List RingState) (was mid is : Told) (before now after : ℕ) (held : List ℕ) where
  -- the lines of the rings were put
  pub ends_whole : RunsSteps outcome rings was mid before now held (Ok tt) → is ≡ with_end (held ++ ring_lines 0 rings) mid → after ≡ now → Plays outcome was is before after (Ok tt)
  ends_whole ((text, carries, whole), counted) put same =
      let lines = ring_lines 0 rings in
      let with_lines : Carries (text ++ lines) was mid (held ++ lines) = record {
        front = carries.front;
        put = carries.put;
        joined = sym (append_assoc carries.front held lines) ∙ ap (λ (b : List ℕ). b ++ lines) carries.joined;
      } in (
        ap (λ (o : ScheduleOutcome). o.refused) whole,
        carries_all (text ++ lines) (held ++ lines) was mid is with_lines put ∙ ap (λ (b : List ℕ). with_end b was) (sym (ap (λ (o : ScheduleOutcome). o.printed) whole)),
        same ∙ counted,
      )

  -- they were cut off
  pub ends_cut : RunsSteps outcome rings was mid before now held (Ok tt) → IsCutOff (held ++ ring_lines 0 rings) mid is now after → Plays outcome was is before after (Err faults.WriteFault)
  ends_cut ((text, carries, whole), counted) cut =
      cut_more outcome.printed text (ring_lines 0 rings) [] held was mid is before now after
      (ap (λ (o : ScheduleOutcome). o.printed) whole ∙ sym (append-nil (text ++ ring_lines 0 rings)))
      carries counted cut

  -- behind the lines of the steps before a refused one nothing is put
  pub refused_whole : (line : ℕ) (cause : ScheduleCause) → RunsSteps outcome rings was mid before now held (Err (faults.Refused line cause)) → is ≡ with_end held mid → after ≡ now
      → Plays outcome was is before after (Err (faults.Refused line cause))
  refused_whole line cause ((carries, refused), counted) put same = (refused, carries_all outcome.printed held was mid is carries put, same ∙ counted)

  pub refused_cut : (line : ℕ) (cause : ScheduleCause) → RunsSteps outcome rings was mid before now held (Err (faults.Refused line cause)) → IsCutOff held mid is now after
      → Plays outcome was is before after (Err faults.WriteFault)
  refused_cut line cause ((carries, refused), counted) cut =
      cut_held outcome.printed outcome.printed [] held was mid is before now after (sym (append-nil outcome.printed)) carries counted cut

-- nothing was put, and one of the first lines is refused
pub stops_first : (outcome : ScheduleOutcome) (was : Told) (count : ℕ) (fault : ScheduleFault) → StopsInHead outcome fault → Plays outcome was was count count (Err fault)
stops_first outcome was count (faults.Refused line cause) stops =
    (ap (λ (o : ScheduleOutcome). o.refused) stops, put_none was ∙ ap (λ (b : List ℕ). with_end b was) (sym (ap (λ (o : ScheduleOutcome). o.printed) stops)), refl)
  where
    put_none : (was : Told) → was ≡ with_end [] was
    put_none None = refl
    put_none (Some content) = ap Some (sym (append-nil content))
stops_first outcome was count faults.WriteFault stops = absurd stops
stops_first outcome was count faults.NoMemory stops = (none_put outcome.printed was, refl)
  where
    none_put : (text : List ℕ) (was : Told) → PutsFront text was was
    none_put text was = carries_front text [] text [] was was refl (carries_held [] [] was refl)
