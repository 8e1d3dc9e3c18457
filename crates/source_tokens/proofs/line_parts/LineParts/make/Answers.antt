use Rattle.source_tokens.proofs.LineLists.{lines-front}
use Rattle.source_tokens.proofs.line_parts.LineParts.make.Goals as goal

pub returns : goal.returns
returns c = rw c.in_ok-parts.ensures (lines-front c.args.front)
