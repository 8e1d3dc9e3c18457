use Rattle.std.proofs.Common.{[], refl, sym}
use Rattle.trace_text.specs.declared.cause.TraceCause.TheVariants.{Header}
use Rattle.trace_text.specs.Reading.{opening, messages}
use Rattle.trace_text.specs.Progress.{progress}
use Rattle.trace_text.proofs.Steps.{leads, refused_here, refused_as}
use Rattle.trace_text.proofs.HeadLines.{version_taken}
use Rattle.trace_text.proofs.reading.read_header.Goals as goal

pub returns-in_default-read_version-clause-front : goal.returns-in_default-read_version-clause-front
returns-in_default-read_version-clause-front c =
    let from = progress opening c.args.lines in
    refused_as from _ Header c.refused-in_default-read_version.ensures (refused_here from c.in-Some.line.now c.in-Some.rest.bytes.now Header c.in-Some.ensures.some (sym c.in_default-read_version.ensures, refl))

pub returns-clause-front : goal.returns-clause-front
returns-clause-front c =
    leads (progress opening c.args.lines) (progress (messages c.in-Some-read_version.version []) c.in-Some.rest) c.in-Some.line.now c.in-Some.ensures.some c.in-Some.ensures.next (c.in-Some-read_version.version, sym c.in-Some-read_version.ensures, refl)

pub returns-clause-known : goal.returns-clause-known
returns-clause-known c = (version_taken c.in-Some.line.now c.in-Some-read_version.version (sym c.in-Some-read_version.ensures)).known
