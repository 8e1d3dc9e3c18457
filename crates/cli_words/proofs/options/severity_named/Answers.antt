use Rattle.std.proofs.Common.{◌∙◌, ap}
use Rattle.cli_words.specs.Commands.{severity_named}
use Rattle.cli_words.proofs.SeverityNames.{severity_is}
use Rattle.cli_words.proofs.options.severity_named.Goals as goal

pub returns : goal.returns
returns c =
    severity_is c.as_bytes.result.now c.severity_named.result c.severity_named.ensures.some c.severity_named.ensures.none
    ∙ ap severity_named c.as_bytes.ensures.value
