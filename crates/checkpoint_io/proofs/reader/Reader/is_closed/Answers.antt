use Rattle.std.proofs.Common.{rules, ◌≡◌, ◌∙◌}
use Rattle.checkpoint_io.specs.Writers.{closed_kept}
use Rattle.checkpoint_io.proofs.ReaderLaws.{closed_answer}
use Rattle.checkpoint_io.proofs.reader.Reader.is_closed.Goals as goal

pub returns-clause-closed : goal.returns-clause-closed
returns-clause-closed c taken before =
    let here : c.is_closed.result ≡ closed_kept c.args.self.now.writers c.args.writer = search rules in
    here ∙ closed_answer c.args.self.now taken before c.args.writer
