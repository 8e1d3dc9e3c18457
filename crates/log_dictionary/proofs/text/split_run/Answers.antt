use Rattle.std.proofs.Common.{sym, ◌∙◌, ap}
use Rattle.std.specs.List.{list_all}
use Rattle.log_dictionary.specs.Texts.{is_plain}
use Rattle.log_dictionary.proofs.TextRuns.{run_is, run_breaks}
use Rattle.log_dictionary.proofs.text.split_run.Goals as goal

pub returns-then-are_plain-clause-some : goal.returns-then-are_plain-clause-some
returns-then-are_plain-clause-some c = rw (c.split_at.ensures.front, c.split_at.ensures.back)
    (run_is c.args.bytes.now c.run_len.result c.run_len.ensures.end (ap (list_all is_plain) (sym c.split_at.ensures.front) ∙ sym c.are_plain.ensures ∙ c.if-are_plain.true))

pub returns-clause-none : goal.returns-clause-none
returns-clause-none c = run_breaks c.args.bytes.now c.run_len.result c.run_len.ensures.before (ap (list_all is_plain) (sym c.split_at.ensures.front) ∙ sym c.are_plain.ensures ∙ c.if-are_plain.false)
