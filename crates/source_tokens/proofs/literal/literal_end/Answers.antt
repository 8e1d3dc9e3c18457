use Rattle.std.proofs.Common.{sym, subst, arith}
use Rattle.source_tokens.proofs.Literals.{Inside, inside-none, inside-plain, inside-pair, literal-at_end, literal-at_line, literal-at_mark, literal-at_slash}
use Rattle.source_tokens.proofs.literal.literal_end.Goals as goal
use Rattle.source_tokens.proofs.literal.literal_end.Goals.{in_default, in-len1-up+then-byte-eq10}

pub loop-rest-init : goal.loop-rest-init
loop-rest-init c = (inside-none _ _, omega arith)

pub returns-then-byte-mark-clause-longest : goal.returns-then-byte-mark-clause-longest
returns-then-byte-mark-clause-longest c =
    rw c.past_splices-behind.ensures.after (literal-at_mark c.args.mark _ _ c.requires.no_line c.loop-rest.invariant.0 c.in-len1-up.len_at_least c.if-byte-mark.true)

pub loop-rest-preserved-then-byte-ne92 : goal.loop-rest-preserved-then-byte-ne92
loop-rest-preserved-then-byte-ne92 c =
    let inside = inside-plain c.args.mark _ _ c.loop-rest.invariant.0 c.in-len1-up.len_at_least c.if-byte-eq10.false c.if-byte-mark.false c.if-byte-ne92.true in
    (subst (Inside c.args.mark c.args.bytes.now) (sym c.past_splices-behind.ensures.after) inside, omega arith)

pub loop-rest-preserved : goal.loop-rest-preserved
loop-rest-preserved c =
    let inside = inside-pair c.args.mark _ _ _ c.past_splices-behind.ensures.after c.requires.no_backslash c.loop-rest.invariant.0 c.in-len1-up.len_at_least c.if-byte-ne92.false c.in-len1-up-behind.len_at_least c.if-second-eq10.false in
    (subst (Inside c.args.mark c.args.bytes.now) (sym c.past_splices-rest.ensures.after) inside, omega arith)

pub returns-in_default-behind-clause-longest : goal.returns-in_default-behind-clause-longest
returns-in_default-behind-clause-longest c =
    literal-at_slash c.args.mark _ _ _ c.past_splices-behind.ensures.after c.requires.no_backslash c.loop-rest.invariant.0 c.in-len1-up.len_at_least c.if-byte-ne92.false (λ some. absurd (omega arith))

pub returns-then-second-eq10-clause-longest : goal.returns-then-second-eq10-clause-longest
returns-then-second-eq10-clause-longest c =
    literal-at_slash c.args.mark _ _ _ c.past_splices-behind.ensures.after c.requires.no_backslash c.loop-rest.invariant.0 c.in-len1-up.len_at_least c.if-byte-ne92.false (λ some. c.if-second-eq10.true)

pub returns-clause-longest : goal.returns-clause-longest
returns-clause-longest c =
    elim c.if-rest-lt1.branch [
      | in_default w ↦ literal-at_end c.args.mark _ _ c.loop-rest.invariant.0 w.in_default.len_below
      | in-len1-up+then-byte-eq10 w ↦ literal-at_line c.args.mark _ _ c.loop-rest.invariant.0 w.in-len1-up.len_at_least w.if-byte-eq10.true
    ]
