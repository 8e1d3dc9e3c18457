-- The commands that run sessions are sound.
use Rattle.std.proofs.Common.{◌≡◌, ℕ, List, Some, refl, subst, inl, inr}
use Rattle.nl_io.specs.Desk.{Desk}
use Rattle.trace_generator.specs.Generated.{Generated}
use Rattle.trace_text.specs.Recordings.{Recording}
use Rattle.trace_text.specs.Traces.{TraceText}
use Rattle.trace_text.proofs.lemmas.ToldApart.{one_run}
use Rattle.session_options.specs.declared.options.Options.{Options}
use Rattle.command_base.specs.Endings.{Ending, IsDone, Done, Refused}
use Rattle.command_base.specs.HeldFiles.{Holds}
use Rattle.command_base.proofs.lemmas.HeldLaws.{such_there, such_is}
use Rattle.command_base.specs.Readings.{never}
use Rattle.command_base.specs.Soundness.{IsSound}
use Rattle.command_base.proofs.lemmas.SoundTasks.{file_sound, free_sound}
use Rattle.command_base.specs.Tasks.{Product, WhileReading, UntilBegun, text_alone}
use Rattle.trace_commands.specs.Traces.{TraceRead, IsTrace}
use Rattle.trace_commands.proofs.lemmas.Soundness.{right_trace}
use Rattle.session_commands.specs.Replays.{FitRings, IsReplayable, ReplayGives, LeavesLog, replay_task}
use Rattle.session_commands.specs.Selftests.{selftest_line, selftest_task}

-- what the trace's name holds is a trace
as_trace : (options : Options) (desk : Desk) (trace : List ℕ) → Holds desk trace (IsReplayable options) → Holds desk trace IsTrace
as_trace options desk trace holds =
    record { held = holds.held; bytes = holds.bytes; told = holds.told; there = holds.there; formed = (holds.formed.0, holds.formed.1) }

-- the rings of the one run that it spells fit
rings_fit : (options : Options) (desk : Desk) (trace : List ℕ) (run : Recording) → Holds desk trace (IsReplayable options) → TraceRead desk trace run → FitRings run options
rings_fit options desk trace run holds read =
    let (own, text, fit) = holds.formed in
    let same = one_run holds.bytes own run text (such_is desk trace (IsReplayable options) (λ bytes. TraceText bytes run) holds read) in
    subst (λ (r : Recording). FitRings r options) same fit

session_done : (trace : List ℕ) (options : Options) (desk : Desk) (product : Product) (ending : Ending)
    → Holds desk trace (IsReplayable options) → ReplayGives trace options desk product ending → IsDone ending
session_done trace options desk product Done holds gives = refl
session_done trace options desk product (Refused name line cause) holds (inl refused) =
    absurd (right_trace trace desk product name line cause (as_trace options desk trace holds) refused)
session_done trace options desk product (Refused name line cause) holds (inr refused) =
    absurd (refused.large (rings_fit options desk trace refused.run holds refused.trace_read))
session_done trace options desk product ending holds gives = absurd gives

pub replay_sound : (trace log : List ℕ) (options : Options) → IsSound (replay_task trace log options)
replay_sound trace log options =
    file_sound trace UntilBegun (ReplayGives trace options) never (IsReplayable options) (Some log) (LeavesLog trace options)
    (record {
      done = session_done trace options;
      streams = λ desk text begun. absurd begun;
      there = λ desk bytes left. such_there desk trace (λ bytes. TraceText bytes left.0) left.1;
    })

pub selftest_sound : (seed calls writers : ℕ) → IsSound (selftest_task seed calls writers)
selftest_sound seed calls writers =
    free_sound WhileReading (λ product. product ≡ text_alone (selftest_line (Generated seed calls writers)))
