use Rattle.std.proofs.Common.{rules, ◌≡◌, true, sym, ◌∙◌}
use Rattle.checkpoint_io.proofs.HeaderLaws.{version_answer}
use Rattle.checkpoint_io.proofs.header_reading.read_version.Goals as goal

pub returns-clause-read : goal.returns-clause-read
returns-clause-read g c =
    let known : c.is_known.result ≡ true = search rules in
    version_answer c.read_writers.result c.in_ok-version.version _ _ _ _ (sym c.is_known.ensures ∙ known) c.in_ok-version.ensures.read c.read_writers.ensures.read
