-- A schedule was read, its lines were printed, and then the command ends as the schedule says.
use Rattle.std.proofs.Common.{◌≡◌, ℕ, ◌≤◌, List, length, take, drop, take-append-drop, Option, Some, None, Ok, Err, refl, sym, ap, subst, ◌∙◌, inl, inr, arith}
use Rattle.std.specs.Prelude.{IfSome}
use Rattle.std.specs.FinMap as map
use Rattle.std.proofs.lemmas.Bool.{cases_lt}
use Rattle.std.proofs.lemmas.List.{length-take, take_all}
use Rattle.nl_io.specs.Content.{Told, with_end}
use Rattle.nl_io.specs.Desk.{Desk, Held}
use Rattle.schedule_text.specs.declared.cause.ScheduleCause.{ScheduleCause}
use Rattle.schedule_text.specs.declared.playing.ScheduleFault.{ScheduleFault}
use Rattle.schedule_text.specs.declared.playing.ScheduleFault.TheVariants as faults
use Rattle.schedule_text.specs.declared.playing.TheConstants.{MAX_TEXT}
use Rattle.schedule_text.specs.Judged.{ScheduleOutcome, judged}
use Rattle.schedule_text.specs.Playing.{Plays}
use Rattle.schedule_text.specs.Schedules.{ComesTo}
use Rattle.schedule_text.proofs.lemmas.JudgedLaws.{comes_judged}
use Rattle.schedule_text.proofs.lemmas.Deciding.{front_decides}
use Rattle.command_base.specs.Endings.{Ending, Done}
use Rattle.command_base.specs.Effects.{IsPrinted, CommandEffect}
use Rattle.command_base.proofs.lemmas.EffectLaws.{HasRead, completes, has_completed, cut_off, stopped, only_there, IsVerdict}
use Rattle.command_base.specs.HeldFiles.{HoldsSuch, IsThere}
use Rattle.command_base.proofs.lemmas.HeldLaws.{such_there}
use Rattle.command_base.specs.Readings.{never, ReadsFile}
use Rattle.command_base.specs.Scenes.{Scene, scene}
use Rattle.command_base.specs.Tasks.{WhilePrinting, text_alone}
use Rattle.schedule_commands.specs.Tasks.{fault_ending, verdict_of, GivesSteps, schedule_task}

-- ---- the first bytes of what the name holds decide what it comes to

decided : (held : List ℕ) → MAX_TEXT ≤ length held → judged held ≡ judged (take MAX_TEXT held)
decided held more =
    ap judged (sym (take-append-drop MAX_TEXT held))
    ∙ front_decides (take MAX_TEXT held) (drop MAX_TEXT held) (omega (arith, length-take MAX_TEXT held, more))

same_judged : (held : List ℕ) → judged held ≡ judged (take MAX_TEXT held)
same_judged held = elim (cases_lt (length held) MAX_TEXT) [
  | inl short ↦ ap judged (sym (take_all MAX_TEXT held (omega (arith, short))))
  | inr more ↦ decided held more
]

comes_whole : (held bytes : List ℕ) → bytes ≡ take MAX_TEXT held → ComesTo held (judged bytes)
comes_whole held bytes is = subst (ComesTo held) (same_judged held ∙ ap judged (sym is)) (comes_judged held)

-- what is said of the bytes that a name holds, where that is told
such_of : (told : Option Held) (file : List ℕ) (such other : List ℕ → Type 0) → ((bytes : List ℕ) → such bytes → other bytes)
    → IfSome told (λ held. (bytes : List ℕ) × (map.get held file ≡ Some bytes) × such bytes)
    → IfSome told (λ held. (bytes : List ℕ) × (map.get held file ≡ Some bytes) × other bytes)
such_of None file such other follows holds = tt
such_of (Some held) file such other follows (bytes, there, is) = (bytes, there, follows bytes is)

holds_comes : (desk : Desk) (file bytes : List ℕ) → HoldsSuch desk file (λ held. bytes ≡ take MAX_TEXT held) → HoldsSuch desk file (λ held. ComesTo held (judged bytes))
holds_comes desk file bytes holds = such_of desk.held file (λ held. bytes ≡ take MAX_TEXT held) (λ held. ComesTo held (judged bytes)) (λ held is. comes_whole held bytes is) holds

-- ---- how the command ends

verdict_is : (file : List ℕ) (refused : Option (ℕ × ScheduleCause)) → IsVerdict (verdict_of file refused)
verdict_is file None = tt
verdict_is file (Some (line, cause)) = tt

verdict_printed : (file : List ℕ) (refused : Option (ℕ × ScheduleCause)) → IsPrinted (verdict_of file refused) WhilePrinting
verdict_printed file None = tt
verdict_printed file (Some (line, cause)) = tt

module _ (file bytes : List ℕ) (old : Scene) (desk : Desk) (same : desk ≡ old.desk) (holds : HoldsSuch old.desk file (λ held. bytes ≡ take MAX_TEXT held)) where
  abbrev outcome : ScheduleOutcome
  outcome = judged bytes

  abbrev verdict : Ending
  verdict = verdict_of file outcome.refused

  there : IsThere old.desk file
  there = such_there old.desk file (λ held. bytes ≡ take MAX_TEXT held) holds

  reads_by : (refused : Option (ℕ × ScheduleCause)) → outcome.refused ≡ refused → ReadsFile file (GivesSteps file) never old.desk desk (text_alone outcome.printed) (verdict_of file refused)
  reads_by None is = (same, there, (None, refl, refl, subst (λ (r : Option (ℕ × ScheduleCause)). HoldsSuch old.desk file (λ held. ComesTo held (record { printed = outcome.printed; refused = r }))) is (holds_comes old.desk file bytes holds)))
  reads_by (Some (line, cause)) is = (same, there, (Some (line, cause), refl, refl, subst (λ (r : Option (ℕ × ScheduleCause)). HoldsSuch old.desk file (λ held. ComesTo held (record { printed = outcome.printed; refused = r }))) is (holds_comes old.desk file bytes holds)))

  has_read : HasRead (schedule_task file) old desk (text_alone outcome.printed) verdict
  has_read = record { read = desk; reading = reads_by outcome.refused refl; made = refl }

  whole : (put : Told) (faults : ℕ) (refused : Option (ℕ × ScheduleCause)) → outcome.refused ≡ refused → put ≡ with_end outcome.printed old.put → faults ≡ old.faults
      → CommandEffect (schedule_task file) old (scene desk put faults) (verdict_of file refused)
  whole put faults refused is printed counted =
      completes (schedule_task file) old (scene desk put faults) (verdict_of file refused) (verdict_is file refused)
      (has_completed (schedule_task file) old desk (text_alone outcome.printed) (verdict_of file refused) put faults (record { read = desk; reading = reads_by refused is; made = refl }) printed counted)

  pub played_done : (put : Told) (count : ℕ) → Plays outcome old.put put old.faults count (Ok tt) → CommandEffect (schedule_task file) old (scene desk put count) Done
  played_done put count (none, printed, counted) = whole put count None none printed counted

  pub played_fault : (put : Told) (count : ℕ) (fault : ScheduleFault) → Plays outcome old.put put old.faults count (Err fault) → CommandEffect (schedule_task file) old (scene desk put count) (fault_ending file fault)
  played_fault put count (faults.Refused line cause) (refused, printed, counted) = whole put count (Some (line, cause)) refused printed counted
  played_fault put count faults.WriteFault cut =
      cut_off (schedule_task file) old desk (text_alone outcome.printed) verdict (fault_ending file faults.WriteFault) put count has_read (refl, cut.some, cut.put, cut.rose) (λ e. cc) (λ e. cc)
  played_fault put count faults.NoMemory (front, counted) =
      stopped (schedule_task file) old desk (text_alone outcome.printed) verdict put count has_read tt (verdict_printed file outcome.refused) (only_there file old.desk there) front counted
