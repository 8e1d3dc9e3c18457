use Rattle.std.proofs.Common.{List, ℕ, ◌++◌, ap, ◌∙◌}
use Rattle.nl_io.proofs.lemmas.TextWriters.{carries_held}
use Rattle.nl_io.proofs.text_writer.TextWriter.put.Goals as goal

pub returns-in-Ok-clause-ok : goal.returns-in-Ok-clause-ok
returns-in-Ok-clause-ok g c = carries_held _ _ _ (c.in-Ok.ensures.ok ∙ ap (λ (b : List ℕ). b ++ c.args.bytes.now) c.self.view_is)
