-- The command over schedules is sound.
use Rattle.std.proofs.Common.{◌≡◌, ℕ, List, ◌++◌, Option, None, refl, sym, subst, ◌∙◌, inl}
use Rattle.schedule_text.specs.declared.cause.ScheduleCause.{ScheduleCause}
use Rattle.schedule_text.specs.Printed.{ring_lines}
use Rattle.schedule_text.specs.Judged.{ScheduleOutcome}
use Rattle.schedule_text.specs.Schedules.{played_lines, ComesTo}
use Rattle.schedule_text.proofs.lemmas.JudgedLaws.{only_judged}
use Rattle.command_base.specs.Endings.{IsDone}
use Rattle.command_base.proofs.lemmas.HeldLaws.{such_is}
use Rattle.command_base.specs.Tasks.{WhilePrinting}
use Rattle.command_base.specs.Readings.{never}
use Rattle.command_base.specs.Soundness.{IsSound}
use Rattle.command_base.proofs.lemmas.SoundTasks.{file_sound}
use Rattle.schedule_commands.specs.Tasks.{verdict_of, GivesSteps, IsSchedule, schedule_task}

-- in a schedule that is played no line is refused
none_refused : (file bytes text : List ℕ) (refused : Option (ℕ × ScheduleCause)) → IsSchedule bytes → ComesTo bytes (record { printed = text; refused = refused }) → IsDone (verdict_of file refused)
none_refused file bytes text refused (s, last, is) comes =
    let whole : ScheduleOutcome = record { printed = played_lines s ++ ring_lines 0 last; refused = None } in
    let same : whole ≡ record { printed = text; refused = refused } = sym (only_judged bytes whole (inl (s, last, is, refl))) ∙ only_judged bytes (record { printed = text; refused = refused }) comes in
    subst (λ (o : ScheduleOutcome). IsDone (verdict_of file o.refused)) same refl

pub schedule_sound : (file : List ℕ) → IsSound (schedule_task file)
schedule_sound file = file_sound file WhilePrinting (GivesSteps file) never IsSchedule None (λ desk bytes. ⊥) (record {
  done = λ desk product ending holds (refused, told, unmade, comes).
      subst IsDone (sym told) (none_refused file holds.bytes product.text refused holds.formed (such_is desk file IsSchedule (λ bytes. ComesTo bytes (record { printed = product.text; refused = refused })) holds comes));
  streams = λ desk text begun. absurd begun;
  there = λ desk bytes left. absurd left;
})
