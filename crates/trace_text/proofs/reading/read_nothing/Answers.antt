use Rattle.std.proofs.Common.{sym, ◌∙◌}
use Rattle.trace_text.specs.declared.cause.TraceCause.TheVariants.{AfterEnd}
use Rattle.trace_text.specs.Reading.{ended}
use Rattle.trace_text.specs.Progress.{progress}
use Rattle.trace_text.proofs.Steps.{refused_as, refused_behind}
use Rattle.trace_text.proofs.reading.read_nothing.Goals as goal

pub returns-else-is_empty : goal.returns-else-is_empty
returns-else-is_empty c =
    refused_as (progress (ended c.args.run) c.args.lines) _ AfterEnd c.refused.ensures (refused_behind c.args.run c.args.lines.number c.args.lines.bytes.now (sym c.is_empty.ensures ∙ c.if-is_empty.false))
