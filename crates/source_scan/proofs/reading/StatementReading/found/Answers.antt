use Rattle.source_scan.specs.declared.found.StatementCause.TheVariants as causes
use Rattle.source_scan.specs.Readings.{parted_of, HasCause}
use Rattle.source_scan.proofs.Answered.{refused-result}
use Rattle.source_scan.proofs.reading.StatementReading.found.Goals as goal

pub returns-in_default : goal.returns-in_default
returns-in_default c =
    let has : HasCause c.args.source.now (parted_of c.args.self.now) causes.Severity = (c.is_file_name.ensures.0 c.if-not-is_file_name.false, λ severe. c.in_default.ensures.none severe.0 severe.1) in
    refused-result c.args.source.now (parted_of c.args.self.now) causes.Severity c.refused-in_default.result has c.refused-in_default.ensures
