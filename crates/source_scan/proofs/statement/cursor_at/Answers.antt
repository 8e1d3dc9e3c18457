use Rattle.std.proofs.Common.{ℕ, ◌<◌, ◌^◌, subst}
use Rattle.source_scan.proofs.CursorLemmas.{here-moved}
use Rattle.source_scan.proofs.statement.cursor_at.Goals as goal

pub moved_to-requires-clause-line : goal.moved_to-requires-clause-line
moved_to-requires-clause-line c = subst (λ (line : ℕ). line < 2 ^ 32) (c.requires.follows.line c.args.place c.requires.from) c.requires.line

pub returns : goal.returns
returns c =
    let source = c.args.source in
    here-moved source.file.now source.bytes.now source.changes.now c.args.cursor c.moved_to.result c.args.place c.requires.from c.requires.follows c.moved_to.ensures
