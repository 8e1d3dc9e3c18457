use Rattle.std.proofs.Common.{sym, ◌∙◌}
use Rattle.source_tokens.proofs.LineLists.{lines-line}
use Rattle.source_tokens.proofs.line_parts.LineParts.push.Goals as goal

pub returns : goal.returns
returns c = λ tokens to.
    let next = lines-line tokens c.end_line.new.self.parts c.args.token (c.in_ok-end_line.ensures.parts tokens to) (sym c.ends_line.ensures ∙ c.if-not-ends_line.false) in
    rw (c.in_ok-push.ensures.ok, c.in_ok-end_line.ensures.place) next
