use Rattle.std.proofs.Common.{◌≡◌, List}
use Rattle.preprocessor.specs.Findings.{SourceFile}
use Rattle.preprocessor.specs.Numbering.{NumbersSources}
use Rattle.source_commands.proofs.SourceLemmas.{ReadSoFar}
use Rattle.source_commands.proofs.sources.number_sources.Given as goal

-- the sources of the names so far are numbered, and no call failed
abbrev pub invariant-loop-name : goal.invariant-loop-name
invariant-loop-name g l = record {
  sources : List SourceFile;
  read : ReadSoFar (g.F.Files.desk l.fn.files) l.names l.name-index sources;
  numbers : NumbersSources sources l.numbering;
  same : g.F.Files.desk l.files ≡ g.F.Files.desk l.fn.files;
  others : g.F.Files.rest l.fn.files l.files;
}
