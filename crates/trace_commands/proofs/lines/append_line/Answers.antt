use Rattle.std.proofs.Common.{◌≡◌, ℕ, List, [], ◌∷◌, ◌++◌, Some, OnOk, ap, ◌∙◌, map-id, rules}
use Rattle.std.proofs.lemmas.Result.{on_ok_weaker}
use Rattle.log_dictionary.specs.Calls.{LogCall}
use Rattle.arg_records.specs.Calls.{log_call}
use Rattle.direct_printf.specs.Lines.{Line}
use Rattle.trace_commands.proofs.CallLines.{made_line}
use Rattle.trace_commands.proofs.lines.append_line.Goals as goal

pub returns : goal.returns
returns c =
    let before = c.args.text.now.items in
    let written = rw (map-id, c.as_slice.ensures.values) at c.line.ensures.ok in
    let alone : OnOk c.line.result ((ordinal : ℕ) (made : LogCall) → log_call c.args.dictionary.now c.args.writer (ordinal, c.args.call.now) ≡ Some made → c.line.new.out.items ≡ before ++ Line (c.at.result ∷ []) made) = search rules in
    on_ok_weaker c.line.result
    (λ own ordinal made is. own ordinal made is ∙ ap (λ (line : List ℕ). before ++ line) (made_line c.args.clocks.now c.at.result c.args.dictionary.now c.args.writer ordinal c.args.call.now made c.at.ensures.counts c.at.ensures.not_before is))
    alone
