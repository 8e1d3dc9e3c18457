use Rattle.std.proofs.Common.{refl}
use Rattle.source_scan.specs.Texts.{unspliced}
use Rattle.source_scan.specs.Escapes.{unescaped_behind}
use Rattle.source_scan.specs.Severities.{last_name}
use Rattle.source_scan.proofs.laws.worked_names.Goals as goal

pub returns-clause-scope : goal.returns-clause-scope
unfolding last_name
returns-clause-scope c = refl

pub returns-clause-colons : goal.returns-clause-colons
unfolding last_name
returns-clause-colons c = refl

pub returns-clause-marker : goal.returns-clause-marker
unfolding unspliced unescaped_behind
returns-clause-marker c = refl

pub returns-clause-line : goal.returns-clause-line
unfolding unspliced
returns-clause-line c = refl

pub returns-clause-line_least : goal.returns-clause-line_least
unfolding unspliced
returns-clause-line_least c = refl

pub returns-clause-line_greatest : goal.returns-clause-line_greatest
unfolding unspliced
returns-clause-line_greatest c = refl

pub returns-clause-line_over : goal.returns-clause-line_over
unfolding unspliced
returns-clause-line_over c = refl

pub returns-clause-splices : goal.returns-clause-splices
unfolding unspliced
returns-clause-splices c = refl

pub returns-clause-spliced_line : goal.returns-clause-spliced_line
returns-clause-spliced_line c = refl
