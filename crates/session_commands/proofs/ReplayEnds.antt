-- How `replay` ends, by what was read, written and told.
use Rattle.std.proofs.Common.{◌≡◌, ◌≢◌, ℕ, ◌+◌, ◌-◌, ◌≤◌, List, [], ◌∷◌, Some, Result, Ok, Err, refl, sym, ap, subst, ◌∙◌, inl, inr, arith}
use Rattle.std.specs.Prelude.{◌^◌, ◌∷◌, min, IfOk, OnErr, IsErrOf}
use Rattle.std.proofs.lemmas.List.{append-nil}
use Rattle.nl_io.specs.Count.{Rose}
use Rattle.nl_io.specs.Content.{Told, with_end}
use Rattle.nl_io.specs.Desk.{Desk, OnlyName, OnlyWriteFaults, Creates, Finishes, SameButHeld, put_by, found_in}
use Rattle.nl_io.proofs.lemmas.DeskLaws.{written, written-holds}
use Rattle.arg_records.specs.declared.call.Call.{Call}
use Rattle.checkpoint_io.specs.Logs.{LogOf}
use Rattle.trace_text.specs.Recordings.{Recording}
use Rattle.trace_text.specs.Traces.{TraceText}
use Rattle.trace_session.specs.declared.drops.Dropped.{Dropped}
use Rattle.session_options.specs.declared.options.Options.{Options}
use Rattle.trace_session.specs.declared.outcome.Outcome.{Outcome}
use Rattle.trace_session.specs.declared.outcome.RunFault.{RunFault}
use Rattle.trace_session.specs.declared.outcome.RunFault.TheVariants as run_faults
use Rattle.trace_session.specs.Drops.{Taken}
use Rattle.trace_session.specs.Sessions.{AreCounted, IsSession, AreFirstCalls, IsCutSession}
use Rattle.decompressor.proofs.lemmas.TextLaws.{log_is_text}
use Rattle.command_base.specs.Endings.{Ending, Refused, WriteFault, NoMemory}
use Rattle.command_base.specs.Effects.{CommandEffect}
use Rattle.command_base.proofs.lemmas.EffectLaws.{put_nothing, nothing_came, none_given, printed_done, lost}
use Rattle.command_base.specs.HeldFiles.{IsHeld}
use Rattle.command_base.proofs.lemmas.HeldLaws.{such_there, holds_written}
use Rattle.command_base.specs.Printing.{Prints}
use Rattle.command_base.specs.Scenes.{Scene, scene}
use Rattle.command_base.specs.Tasks.{Product}
use Rattle.trace_commands.specs.Traces.{TraceRead, IsRefusedAt, GivesNoTrace}
use Rattle.session_commands.specs.Headline.{outcome_text, accepted_count, filtered_count, told_text}
use Rattle.session_commands.specs.Replays.{FitRings, rings_too_large, ReplayGives, IsLogFront, GivesNoLog, run_fault_ending, replay_task}
use Rattle.session_commands.proofs.lemmas.Soundness.{replay_sound}

-- ---- the log

-- a name that was created, written to and finished holds what was written
pub created_holds : (old : Desk) (name bytes : List ℕ) (id : ℕ) (created put new : Desk) → Creates old name id created
    → SameButHeld id created put → created.write_faults ≤ put.write_faults
    → put_by put id ≡ with_end bytes (put_by created id) → Finishes put id new → IsHeld new name bytes
created_holds old name bytes id created put new creates same count grew finishes =
    holds_written old.held new.held name bytes (written old name id created put new creates same count finishes).told
    (written-holds old name bytes id created put new creates same grew finishes)

-- a call that failed has done what a failed call does
pub unless_ok : {T E P : Type 0} (r : Result T E) → OnErr r P → ((x : T) → r ≡ Ok x → ⊥) → P
unless_ok (Ok x) holds none = absurd (none x refl)
unless_ok (Err e) holds none = holds

rose_from : (most before between after : ℕ) → before ≤ between → min (between + 1) most ≤ after
    → min (before + 1) most ≤ after
rose_from most before between after count rose = omega arith

-- a name that couldn't be created
pub not_created : (run : Recording) (options : Options) (log : List ℕ) (old new : Desk) → OnlyWriteFaults old new
    → Rose old.write_faults new.write_faults → GivesNoLog run options log old new (WriteFault log)
not_created run options log old new only rose = (refl, inl (ap (λ (d : Desk). found_in d log) only.same), rose)

-- all calls are the first ones
first_of_all : (taken : List (List Call)) → AreFirstCalls taken taken
first_of_all [] = tt
first_of_all (calls ∷ taken) = (([], sym (append-nil calls)), first_of_all taken)

-- a whole log is a front of one
whole_front : {D : Type 0} (sent got : D → List (List ℕ)) (run : Recording) (options : Options) (outcome : Outcome D)
    (bytes : List ℕ) → IsSession sent got run options outcome bytes → IsCutSession run options bytes
whole_front sent got run options outcome bytes session =
    let taken = Taken run options.level outcome.drops in
    record {
      drops = outcome.drops;
      dropped = session.dropped;
      waits = session.waits;
      taken = taken;
      first = first_of_all taken;
      rest = [];
      log = subst (λ (b : List ℕ). LogOf b taken run.dictionary run.version run.clocks options.batch) (sym (append-nil bytes)) session.log.lawful;
      closed = λ writer marked. refl;
    }

-- what a session has written, whatever it answers
pub record HasWritten (run : Recording) (options : Options) (created put : Desk) (id : ℕ) : Type 0 where
  pub bytes : List ℕ
  pub grew : put_by put id ≡ with_end bytes (put_by created id)
  pub front : IsLogFront run options bytes

pub has_written : {D : Type 0} (sent got : D → List (List ℕ)) (run : Recording) (options : Options) (created put : Desk)
    (id : ℕ) (result : Result (Outcome D) RunFault)
    → IfOk result (λ outcome. (bytes : List ℕ) × (put_by put id ≡ with_end bytes (put_by created id)) × IsSession sent got run options outcome bytes)
    → ¬ (IsErrOf result run_faults.BadSize) → (IsErrOf result run_faults.NoMemory → put ≡ created)
    → (IsErrOf result run_faults.SinkFault → (bytes : List ℕ) × (put_by put id ≡ with_end bytes (put_by created id)) × IsCutSession run options bytes)
    → HasWritten run options created put id
has_written sent got run options created put id (Ok outcome) (bytes, grew, session) sized unbegun cut =
    record { bytes = bytes; grew = grew; front = inr (whole_front sent got run options outcome bytes session) }
has_written sent got run options created put id (Err run_faults.BadSize) ok sized unbegun cut = absurd (sized refl)
has_written sent got run options created put id (Err run_faults.NoMemory) ok sized unbegun cut = record {
  bytes = [];
  grew = ap (λ (d : Desk). put_by d id) (unbegun refl) ∙ put_nothing (put_by created id);
  front = inl refl;
}
has_written sent got run options created put id (Err run_faults.SinkFault) ok sized unbegun cut =
    let (bytes, grew, front) = cut refl in record { bytes = bytes; grew = grew; front = inr front }

-- what was written to a name that couldn't be finished
pub not_finished : (run : Recording) (options : Options) (log : List ℕ) (old : Desk) (id : ℕ) (created put new : Desk)
    → Creates old log id created → SameButHeld id created put → created.write_faults ≤ put.write_faults
    → HasWritten run options created put id → Finishes put id new
    → Rose put.write_faults new.write_faults → GivesNoLog run options log old new (WriteFault log)
not_finished run options log old id created put new creates same count wrote finishes rose = (
  refl,
  inr (wrote.bytes, created_holds old log wrote.bytes id created put new creates same count wrote.grew finishes, wrote.front),
  subst (λ (n : ℕ). Rose n new.write_faults) (ap (λ (d : Desk). d.write_faults) creates.created)
      (rose_from (2 ^ 64 - 1) created.write_faults put.write_faults new.write_faults count rose),
)

-- a session that wasn't run to its end, whose file was finished
pub not_run : {T : Type 0} (run : Recording) (options : Options) (log : List ℕ) (old : Desk) (id : ℕ)
    (created put new : Desk) (fault : RunFault)
    → Creates old log id created → SameButHeld id created put → created.write_faults ≤ put.write_faults
    → HasWritten run options created put id → Finishes put id new
    → new.write_faults ≡ put.write_faults → ¬ (IsErrOf {T = T} (Err fault) run_faults.BadSize)
    → (IsErrOf {T = T} (Err fault) run_faults.NoMemory → put ≡ created)
    → (IsErrOf {T = T} (Err fault) run_faults.SinkFault → Rose created.write_faults put.write_faults)
    → GivesNoLog run options log old new (run_fault_ending log fault)
not_run run options log old id created put new run_faults.BadSize creates same count wrote finishes counted sized unbegun cause =
    absurd (sized refl)
not_run run options log old id created put new run_faults.NoMemory creates same count wrote finishes counted sized unbegun cause =
    let none : put ≡ created = unbegun refl in (
      created_holds old log [] id created put new creates same count
          (ap (λ (d : Desk). put_by d id) none ∙ put_nothing (put_by created id)) finishes,
      counted ∙ ap (λ (d : Desk). d.write_faults) none ∙ ap (λ (d : Desk). d.write_faults) creates.created,
    )
not_run run options log old id created put new run_faults.SinkFault creates same count wrote finishes counted sized unbegun cause = (
  refl,
  inr (wrote.bytes, created_holds old log wrote.bytes id created put new creates same count wrote.grew finishes, wrote.front),
  subst (λ (n : ℕ). Rose n new.write_faults) (ap (λ (d : Desk). d.write_faults) creates.created)
      (subst (Rose created.write_faults) (sym counted) (cause refl)),
)

-- ---- ends

-- no trace was read, and nothing printed
pub replay_unread : (trace log : List ℕ) (options : Options) (old : Scene) (desk : Desk) (ending : Ending)
    → GivesNoTrace trace old.desk desk ending
    → CommandEffect (replay_task trace log options) old (scene desk old.put old.faults) ending
replay_unread trace log options old desk ending none =
    nothing_came (replay_task trace log options) old desk ending (replay_sound trace log options)
    (none_given trace (IsRefusedAt trace) (ReplayGives trace options) _ _ _ (λ name line cause refused. inl refused) none)

-- the trace was read, and its rings would have too many words
pub replay_too_large : (trace log : List ℕ) (options : Options) (old : Scene) (desk : Desk) (run : Recording)
    → TraceRead old.desk trace run → desk ≡ old.desk → ¬ (FitRings run options)
    → CommandEffect (replay_task trace log options) old (scene desk old.put old.faults) (Refused trace (Some 0) rings_too_large)
replay_too_large trace log options old desk run read same large =
    nothing_came (replay_task trace log options) old desk (Refused trace (Some 0) rings_too_large) (replay_sound trace log options) (
      same,
      such_there old.desk trace (λ bytes. TraceText bytes run) read,
      inr (record { named = refl; nothing_came = refl; at_no_line = refl; cause_is = refl; run = run; trace_read = read; large = large }),
    )

-- memory was wanting behind the trace
pub replay_lacked : (trace log : List ℕ) (options : Options) (old : Scene) (desk : Desk) (run : Recording)
    → TraceRead old.desk trace run → desk ≡ old.desk
    → CommandEffect (replay_task trace log options) old (scene desk old.put old.faults) NoMemory
replay_lacked trace log options old desk run read same =
    nothing_came (replay_task trace log options) old desk NoMemory (replay_sound trace log options)
    ((same, such_there old.desk trace (λ bytes. TraceText bytes run) read), refl)

-- the trace was read, and no log was given
pub replay_lost : (trace log : List ℕ) (options : Options) (old : Scene) (desk : Desk) (run : Recording)
    (ending : Ending) → TraceRead old.desk trace run → FitRings run options → GivesNoLog run options log old.desk desk ending → OnlyName log old.desk desk
    → CommandEffect (replay_task trace log options) old (scene desk old.put old.faults) ending
replay_lost trace log options old desk run (WriteFault name) read fit (named, holds, rose) only =
    subst (λ (n : List ℕ). CommandEffect (replay_task trace log options) old (scene desk old.put old.faults) (WriteFault n))
    (sym named)
    (elim holds [
      | inl same ↦ lost (replay_task trace log options) old desk log [] refl (run, read, fit, inl refl) (inl same) only rose
      | inr (bytes, held, front) ↦
          lost (replay_task trace log options) old desk log bytes refl (run, read, fit, front) (inr held) only rose
    ])
replay_lost trace log options old desk run NoMemory read fit (held, counted) only = inr (record {
  name = log;
  output = refl;
  leaves = (run, read, fit, inl refl);
  emptied = (held, only, counted);
  unprinted = refl;
  counted = refl;
})
replay_lost trace log options old desk run ending read fit gives only = absurd gives

-- the counts that are told are those of the run
counts_told : (run : Recording) (options : Options) (drops : List Dropped) (accepted filtered : ℕ)
    → AreCounted run options drops accepted filtered
    → outcome_text drops accepted filtered ≡ told_text run options.level drops
counts_told run options drops accepted filtered counts =
    let accepted_is : accepted ≡ accepted_count run options.level drops = omega (arith, counts.all_kept) in
    let filtered_is : filtered ≡ filtered_count run options.level drops = omega (arith, counts.all_kept, counts.all_calls) in
    λ i. outcome_text drops (accepted_is i) (filtered_is i)

-- the log was written, and what the session came to was told without want of memory
pub replay_told : {D : Type 0} (sent got : D → List (List ℕ)) (trace log : List ℕ) (options : Options) (old : Scene)
    (desk : Desk) (run : Recording) (outcome : Outcome D) (bytes : List ℕ) (put : Told) (faults : ℕ) (ending : Ending)
    → TraceRead old.desk trace run → FitRings run options → IsHeld desk log bytes → IsSession sent got run options outcome bytes
    → OnlyName log old.desk desk → desk.write_faults ≡ old.desk.write_faults
    → Prints (outcome_text outcome.drops outcome.accepted outcome.filtered) old.put put old.faults faults ending
    → ending ≢ NoMemory → CommandEffect (replay_task trace log options) old (scene desk put faults) ending
replay_told sent got trace log options old desk run outcome bytes put faults ending read fit held session only written prints memory =
    let text = outcome_text outcome.drops outcome.accepted outcome.filtered in
    let product : Product = record { made = Some bytes; text = text } in
    printed_done (replay_task trace log options) old desk product ending put faults
    (record {
      read = old.desk;
      reading = (
        refl,
        such_there old.desk trace (λ bytes. TraceText bytes run) read,
        record {
          run = run;
          drops = outcome.drops;
          bytes = bytes;
          trace_read = read;
          rings = fit;
          made = refl;
          session = record {
            waits = session.waits;
            told = counts_told run options outcome.drops outcome.accepted outcome.filtered session.counts;
            whole = session.log;
            text_same = log_is_text bytes (Taken run options.level outcome.drops) run.dictionary run.version run.clocks options.batch
                session.log.lawful;
            drops_lawful = session.dropped;
          };
        },
      );
      made = (held, only, written);
    })
    prints memory
