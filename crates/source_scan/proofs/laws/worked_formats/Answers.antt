use Rattle.std.proofs.Common.{refl}
use Rattle.source_scan.specs.Texts.{unspliced}
use Rattle.source_scan.specs.Escapes.{unescaped_behind}
use Rattle.source_scan.specs.Items.{items_bytes}
use Rattle.source_scan.proofs.laws.worked_formats.Goals as goal

pub returns-clause-joined : goal.returns-clause-joined
unfolding unspliced unescaped_behind items_bytes
returns-clause-joined c = refl

pub returns-clause-prefix : goal.returns-clause-prefix
unfolding unspliced unescaped_behind items_bytes
returns-clause-prefix c = refl

pub returns-clause-prefix_apart : goal.returns-clause-prefix_apart
unfolding unspliced unescaped_behind items_bytes
returns-clause-prefix_apart c = refl
