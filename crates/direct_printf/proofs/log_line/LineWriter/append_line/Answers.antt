use Rattle.std.proofs.Common.{map, codes, [], ◌∷◌}
use Rattle.std.specs.Fmt.{decimal}
use Rattle.log_dictionary.specs.Severities.{severity_name}
use Rattle.log_dictionary.specs.Times.{Time}
use Rattle.direct_printf.specs.Fields.{Text}
use Rattle.direct_printf.specs.Lines.{Line, seconds_text}
use Rattle.direct_printf.proofs.Joining.{joined}
use Rattle.direct_printf.proofs.log_line.LineWriter.append_line.Goals as goal

pub returns-clause-ok : goal.returns-clause-ok
unfolding Line
returns-clause-ok g c =
    let parts = c.args.parts.now in
    let message = parts.message.now in
    λ ordinal. joined _ (seconds_text (Time (c.args.clock.now ∷ []) parts.stamp)) (32 ∷ []) message.file (58 ∷ decimal message.line) (32 ∷ severity_name message.severity) (91 ∷ []) parts.origin.now (decimal parts.writer) (codes "]: ") (Text message.format (map g.A.Argument.value parts.args.now)) (10 ∷ []) _ _ _ _ c.requires.origin (rw c.time_of.ensures at c.in_ok-append_time.ensures.ok) c.in_ok-append_origin.ensures.ok c.in_ok-render.ensures.ok c.in_ok-push.ensures.items
