use Rattle.std.proofs.Common.{ap, replicate, ◌∙◌}
use Rattle.checkpoint_io.specs.declared.header.Header.{Header}
use Rattle.stamp_merge.specs.Mergers.{fresh_list}
use Rattle.decompressor.specs.Waiting.{no_queue}
use Rattle.decompressor.proofs.Starting.{started}
use Rattle.decompressor.proofs.log_printer.LogPrinter.make.Goals as goal

pub returns-in-Ok-clause-ok : goal.returns-in-Ok-clause-ok
returns-in-Ok-clause-ok g c =
    let (taken, read, none, left) = c.in_ok-reader.ensures.ok in
    let made = started c.in_ok-reader.reader taken c.in-Ok.waiting.items c.in-Ok.merger c.in_ok-reader.ensures.right read none
    (c.in-Ok.ensures.waiting ∙ ap (λ (header : Header). replicate header.writers no_queue) c.header.ensures)
    (c.in-Ok.ensures.lists ∙ ap (λ (header : Header). replicate header.writers fresh_list) c.header.ensures) in
    (taken, made.0, made.1, left)
