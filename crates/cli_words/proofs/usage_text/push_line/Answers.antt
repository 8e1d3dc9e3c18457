use Rattle.std.proofs.Common.{◌∙◌, ◌++◌, ap}
use Rattle.cli_words.proofs.Tables.{line_shown}
use Rattle.cli_words.proofs.usage_text.push_line.Goals as goal

pub returns : goal.returns
returns c =
    line_shown c.args.row.now c.row_options.result.now c.args.text.now.items c.extend_from_slice.new.self.items
    c.extend_from_slice-2.new.self.items c.push_operands.new.text.items c.push_options.new.text.items c.push.new.self.items
    c.row_options.ensures c.in_ok-extend_from_slice.ensures.items
    (c.in_ok-extend_from_slice-2.ensures.items ∙ ap (λ word. c.extend_from_slice.new.self.items ++ word) c.as_bytes.ensures.value)
    c.in_ok-push_operands.ensures c.in_ok-push_options.ensures c.in_ok-push.ensures.items
