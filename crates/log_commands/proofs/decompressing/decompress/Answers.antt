use Rattle.std.proofs.Common.{ℕ, Ok, Err, sym, subst}
use Rattle.nl_io.proofs.lemmas.DeskLaws.{Opens-reading, Opens-content}
use Rattle.nl_io.proofs.lemmas.Contents.{front-whole}
use Rattle.decompressor.specs.Decompressing.{Decompresses}
use Rattle.command_base.specs.Endings.{Ending}
use Rattle.command_base.specs.Effects.{CommandEffect}
use Rattle.command_base.proofs.lemmas.EffectLaws.{answered_as, no_bytes, nothing_came}
use Rattle.command_base.proofs.lemmas.HeldLaws.{was_read, counts_by}
use Rattle.command_base.specs.Scenes.{Scene, scene}
use Rattle.log_commands.specs.Logs.{left_by}
use Rattle.log_commands.specs.Decompressing.{GivesText, BeginsText, decompress_task}
use Rattle.log_commands.proofs.Texts.{all_told, stops_told, fault_told}
use Rattle.log_commands.proofs.lemmas.Soundness.{decompress_sound}
use Rattle.log_commands.proofs.decompressing.decompress.Goals as goal

pub returns-in_err-id-clause-ends : goal.returns-in_err-id-clause-ends
returns-in_err-id-clause-ends g c =
    let task = decompress_task c.args.log.now in
    let old : Scene = scene (g.F.Files.desk c.args.files.now) (g.O.Sink.put c.args.out.now) (g.O.Sink.faults c.args.out.now) in
    let desk = g.F.Files.desk c.open.new.files in
    subst (λ (ending : Ending). CommandEffect task old (scene desk old.put old.faults) ending)
    (sym (answered_as _ c.in_err-id.field-0.0 c.from_residual.ensures.1))
    (nothing_came task old desk _ (decompress_sound c.args.log.now)
    (no_bytes c.args.log.now (GivesText c.args.log.now) (BeginsText c.args.log.now) _ _ _ c.in_err-id.ensures.unread))

pub decompress_open-decompressed-requires : goal.decompress_open-decompressed-requires
decompress_open-decompressed-requires g c = Opens-reading _ _ _ _ c.in_ok-id.ensures.opened

pub returns-in_ok-note_of-in-Ok-clause-ends : goal.returns-in_ok-note_of-in-Ok-clause-ends
returns-in_ok-note_of-in-Ok-clause-ends g c =
    let task = decompress_task c.args.log.now in
    let old : Scene = scene (g.F.Files.desk c.args.files.now) (g.O.Sink.put c.args.out.now) (g.O.Sink.faults c.args.out.now) in
    let new : Scene = scene (g.F.Files.desk c.leave.new.self) (g.O.Sink.put c.decompress_open-decompressed.new.out) (g.O.Sink.faults c.decompress_open-decompressed.new.out) in
    let opens = c.in_ok-id.ensures.opened in
    let leaves = c.leave.ensures.left in
    let left = left_by (g.F.Files.desk c.decompress_open-decompressed.new.files) c.in_ok-id.id in
    let said = counts_by (λ (m n : ℕ). Decompresses opens.content left m n old.put new.put (Ok c.in-Ok.report)) _ _ _ _ _ _ opens leaves (c.in-Ok.ensures.text opens.content (Opens-content _ _ _ _ opens)) in
    subst (λ (ending : Ending). CommandEffect task old new ending) (sym c.in_ok-note_of-in-Ok.ensures)
    (all_told c.args.log.now old new.desk opens.content left
    (was_read _ _ _ _ _ _ opens c.decompress_open-decompressed.ensures.same c.decompress_open-decompressed.ensures.count leaves)
    said.0 (Ok c.in-Ok.report) new.put new.faults tt said.2 said.1 (c.in-Ok.ensures.written (λ e. cc)))

pub returns-in_err-note_of-in-Ok-clause-ends : goal.returns-in_err-note_of-in-Ok-clause-ends
returns-in_err-note_of-in-Ok-clause-ends g c =
    let task = decompress_task c.args.log.now in
    let old : Scene = scene (g.F.Files.desk c.args.files.now) (g.O.Sink.put c.args.out.now) (g.O.Sink.faults c.args.out.now) in
    let new : Scene = scene (g.F.Files.desk c.leave.new.self) (g.O.Sink.put c.decompress_open-decompressed.new.out) (g.O.Sink.faults c.decompress_open-decompressed.new.out) in
    let opens = c.in_ok-id.ensures.opened in
    let leaves = c.leave.ensures.left in
    let left = left_by (g.F.Files.desk c.decompress_open-decompressed.new.files) c.in_ok-id.id in
    let said = counts_by (λ (m n : ℕ). Decompresses opens.content left m n old.put new.put (Ok c.in-Ok.report)) _ _ _ _ _ _ opens leaves (c.in-Ok.ensures.text opens.content (Opens-content _ _ _ _ opens)) in
    subst (λ (ending : Ending). CommandEffect task old new ending) (sym (answered_as _ _ c.from_residual-in_err-note_of-in-Ok.ensures.1))
    (stops_told c.args.log.now old new.desk opens.content left
    (was_read _ _ _ _ _ _ opens c.decompress_open-decompressed.ensures.same c.decompress_open-decompressed.ensures.count leaves)
    said.0 (Ok c.in-Ok.report) new.put new.faults said.2 (front-whole said.0 old.put new.put said.1) (c.in-Ok.ensures.written (λ e. cc)))

pub returns-in-Err-clause-ends : goal.returns-in-Err-clause-ends
returns-in-Err-clause-ends g c =
    let task = decompress_task c.args.log.now in
    let old : Scene = scene (g.F.Files.desk c.args.files.now) (g.O.Sink.put c.args.out.now) (g.O.Sink.faults c.args.out.now) in
    let new : Scene = scene (g.F.Files.desk c.leave.new.self) (g.O.Sink.put c.decompress_open-decompressed.new.out) (g.O.Sink.faults c.decompress_open-decompressed.new.out) in
    let opens = c.in_ok-id.ensures.opened in
    let leaves = c.leave.ensures.left in
    let left = left_by (g.F.Files.desk c.decompress_open-decompressed.new.files) c.in_ok-id.id in
    subst (λ (ending : Ending). CommandEffect task old new ending) (sym c.refusal_of.ensures)
    (fault_told c.args.log.now old new.desk opens.content left
    (was_read _ _ _ _ _ _ opens c.decompress_open-decompressed.ensures.same c.decompress_open-decompressed.ensures.count leaves)
    c.in-Err.fault new.put new.faults
    (counts_by (λ (m n : ℕ). Decompresses opens.content left m n old.put new.put (Err c.in-Err.fault)) _ _ _ _ _ _ opens leaves (c.in-Err.ensures.text opens.content (Opens-content _ _ _ _ opens)))
    c.in-Err.ensures.write_fault
    c.in-Err.ensures.written)
