use Rattle.std.proofs.Common.{◌≡◌, ℕ, sym, subst}
use Rattle.nl_io.specs.Count.{Rose}
use Rattle.nl_io.proofs.lemmas.DeskLaws.{Opens-reading, Opens-content}
use Rattle.command_base.specs.Endings.{Ending}
use Rattle.command_base.proofs.lemmas.HeldLaws.{was_read, counts_by}
use Rattle.command_base.specs.Tasks.{nothing}
use Rattle.log_commands.specs.Logs.{left_by}
use Rattle.log_commands.specs.Migrating.{ReadsLog}
use Rattle.log_commands.proofs.Migrated.{none_read, made_of, none_made}
use Rattle.log_commands.proofs.migrating.read_migrated.Goals as goal

pub migrate_open-answer-requires : goal.migrate_open-answer-requires
migrate_open-answer-requires g c = Opens-reading _ _ _ _ c.in_ok-file.ensures.opened

pub returns-in_err-file-clause-unmade : goal.returns-in_err-file-clause-unmade
returns-in_err-file-clause-unmade g c = none_read c.args.log.now _ _ c.from_residual.result c.in_err-file.field-0.0 c.from_residual.ensures.1 c.in_err-file.ensures.unread

pub returns-in-Ok-clause-made : goal.returns-in-Ok-clause-made
returns-in-Ok-clause-made g c =
    let opens = c.in_ok-file.ensures.opened in
    let leaves = c.leave.ensures.left in
    let said = c.migrate_open-answer.ensures in
    made_of c.args.log.now _ _ opens.content (was_read _ _ _ _ _ _ opens said.same said.count leaves)
    (left_by (g.F.Files.desk c.migrate_open-answer.new.files) c.in_ok-file.file) c.migrate_open-answer.new.into.items c.new-bytes.result.items c.in-Ok.count c.new-bytes.ensures.items
    (c.in-Ok.ensures.answer opens.content (Opens-content _ _ _ _ opens))
    (counts_by (λ (m n : ℕ). n ≡ m) _ _ _ _ _ _ opens leaves (c.in-Ok.ensures.counted (λ e. cc)))

pub returns-clause-unmade : goal.returns-clause-unmade
returns-clause-unmade g c =
    let opens = c.in_ok-file.ensures.opened in
    let leaves = c.leave.ensures.left in
    let said = c.migrate_open-answer.ensures in
    let old = g.F.Files.desk c.args.files.now in
    let new = g.F.Files.desk c.leave.new.self in
    subst (λ (ending : Ending). ReadsLog c.args.log.now old new nothing ending) (sym c.refusal_of.ensures)
    (none_made c.args.log.now old new opens.content (was_read _ _ _ _ _ _ opens said.same said.count leaves)
    (left_by (g.F.Files.desk c.migrate_open-answer.new.files) c.in_ok-file.file) c.migrate_open-answer.new.into.items c.new-bytes.result.items c.in-Err.fault c.new-bytes.ensures.items
    (c.in-Err.ensures.answer opens.content (Opens-content _ _ _ _ opens))
    (λ is. counts_by Rose _ _ _ _ _ _ opens leaves (c.in-Err.ensures.read_fault is))
    (λ other. counts_by (λ (m n : ℕ). n ≡ m) _ _ _ _ _ _ opens leaves (c.in-Err.ensures.counted other)))
