use Rattle.std.proofs.Common.{◌≡◌, ℕ, Err, sym, subst}
use Rattle.nl_io.proofs.lemmas.DeskLaws.{Opens-reading, Opens-content}
use Rattle.command_base.specs.declared.refusal.Refusal.{Refusal}
use Rattle.command_base.specs.Endings.{Ending, refusal_ending}
use Rattle.command_base.proofs.lemmas.HeldLaws.{was_read, counts_by, same_desk, such_read}
use Rattle.command_base.proofs.lemmas.EffectLaws.{no_bytes}
use Rattle.command_base.specs.Readings.{never}
use Rattle.trace_commands.specs.Traces.{IsRefusedTrace, GivesNoTrace, SaysOfTrace}
use Rattle.trace_commands.proofs.Traces.{handed_on, gives_none}
use Rattle.trace_commands.proofs.reading.trace_of_file.Goals as goal

pub returns-in_err-id-clause-unread : goal.returns-in_err-id-clause-unread
returns-in_err-id-clause-unread g c =
    let desk = g.F.Files.desk c.open.new.files in
    handed_on (λ (refusal : Refusal). GivesNoTrace c.args.name.now (g.F.Files.desk c.args.files.now) desk (refusal_ending refusal)) c.from_residual.result c.in_err-id.field-0.0 c.from_residual.ensures.1
    (no_bytes c.args.name.now (IsRefusedTrace c.args.name.now) never (g.F.Files.desk c.args.files.now) desk (refusal_ending c.in_err-id.field-0.0) c.in_err-id.ensures.unread)

pub trace_of_open-read-requires : goal.trace_of_open-read-requires
trace_of_open-read-requires g c = Opens-reading _ _ _ _ c.in_ok-id.ensures.opened

pub returns-in-Ok-clause-found : goal.returns-in-Ok-clause-found
returns-in-Ok-clause-found g c =
    let opens = c.in_ok-id.ensures.opened in
    let was = was_read _ _ _ _ _ _ opens c.trace_of_open-read.ensures.same c.trace_of_open-read.ensures.count c.leave.ensures.left in
    such_read _ _ _ _ _ was (c.in-Ok.ensures.says opens.content (Opens-content _ _ _ _ opens)).0

pub returns-in-Ok-clause-same : goal.returns-in-Ok-clause-same
returns-in-Ok-clause-same g c =
    let opens = c.in_ok-id.ensures.opened in
    let was = was_read _ _ _ _ _ _ opens c.trace_of_open-read.ensures.same c.trace_of_open-read.ensures.count c.leave.ensures.left in
    same_desk _ _ was.only (counts_by (λ (m n : ℕ). n ≡ m) _ _ _ _ _ _ opens c.leave.ensures.left ((c.in-Ok.ensures.says opens.content (Opens-content _ _ _ _ opens)).2 (λ e. cc)))

pub returns-in-Err-clause-unread : goal.returns-in-Err-clause-unread
returns-in-Err-clause-unread g c =
    let opens = c.in_ok-id.ensures.opened in
    let was = was_read _ _ _ _ _ _ opens c.trace_of_open-read.ensures.same c.trace_of_open-read.ensures.count c.leave.ensures.left in
    subst (λ (ending : Ending). GivesNoTrace c.args.name.now (g.F.Files.desk c.args.files.now) (g.F.Files.desk c.leave.new.self) ending) (sym c.refusal_of.ensures)
    (gives_none _ _ _ opens.content c.in-Err.fault was
    (counts_by (SaysOfTrace (Err c.in-Err.fault) opens.content) _ _ _ _ _ _ opens c.leave.ensures.left (c.in-Err.ensures.says opens.content (Opens-content _ _ _ _ opens))))
