use Rattle.std.proofs.Common.{inl, inr, sym, ◌∙◌}
use Rattle.log_dictionary.proofs.TextRuns.{no_escape, escape_unit, escape_breaks}
use Rattle.log_dictionary.proofs.text.split_escaped_run.Goals as goal

pub returns-in_err-escape-clause-none : goal.returns-in_err-escape-clause-none
returns-in_err-escape-clause-none c = rw c.from_residual.ensures (inl (no_escape c.args.bytes.now c.requires c.in_err-escape.ensures))

pub returns-in_err-byte-clause-none : goal.returns-in_err-byte-clause-none
returns-in_err-byte-clause-none c =
    rw c.from_residual-in_err-byte.ensures (inl (escape_unit c.args.bytes.now c.in_ok-escape.escape.now c.in_ok-escape.ensures ∙ sym c.in_err-byte.ensures))

pub returns-in_err-run-clause-none : goal.returns-in_err-run-clause-none
returns-in_err-run-clause-none c =
    let escape = escape_unit c.args.bytes.now c.in_ok-escape.escape.now c.in_ok-escape.ensures ∙ sym c.in_ok-byte.ensures in
    rw c.from_residual-in_err-run.ensures (inr (escape_breaks c.args.bytes.now c.in_ok-byte.behind.now c.in_ok-byte.byte escape c.in_err-run.ensures.none))

pub returns-clause-some : goal.returns-clause-some
returns-clause-some c = record {
  behind = c.in_ok-byte.behind.now;
  escape = escape_unit c.args.bytes.now c.in_ok-escape.escape.now c.in_ok-escape.ensures ∙ sym c.in_ok-byte.ensures;
  follows = c.in_ok-run.ensures.some;
}
