use Rattle.std.proofs.Common.{◌≡◌, false, ◌&&◌, ◌==◌, get_or, sym, subst, arith, ne_eqb}
use Rattle.std.proofs.lemmas.Bool.{and_left, and_right}
use Rattle.source_tokens.specs.Forms.{is_comment_body}
use Rattle.source_tokens.proofs.lemmas.Passing.{Passes, passes-none}
use Rattle.source_tokens.proofs.Comments.{left_of, comment-front, comment-ends, comment-nothing}
use Rattle.source_tokens.proofs.comment.past_comment_body.Goals as goal
use Rattle.source_tokens.proofs.comment.past_comment_body.Goals.{else-star-via-then-star+else-byte-eq47, else-star-via-else-star}

pub loop-rest-init : goal.loop-rest-init
loop-rest-init c = (passes-none is_comment_body _, omega arith)

pub loop-rest-preserved : goal.loop-rest-preserved
loop-rest-preserved c =
    let star = c.loop-rest.star in
    let byte = get_or c.loop-rest.rest.now 0 0 in
    let on : (star && byte == 47) ≡ false =
    elim c.else-star.branch [
      | else-star-via-then-star+else-byte-eq47 w ↦ and_right star (byte == 47) (ne_eqb byte 47 w.if-byte-eq47.false)
      | else-star-via-else-star w ↦ and_left star (byte == 47) w.if-star.false
    ]
    in
    (subst (Passes is_comment_body (left_of (byte == 42)) c.args.bytes.now) (sym c.past_splices-rest.ensures.after) (comment-front star _ _ c.loop-rest.invariant.0 c.in-len1-up.len_at_least on), omega arith)

pub returns-in_default-clause-longest : goal.returns-in_default-clause-longest
returns-in_default-clause-longest c = comment-nothing c.loop-rest.star _ _ c.loop-rest.invariant.0 c.in_default.len_below

pub returns-then-byte-eq47-clause-longest : goal.returns-then-byte-eq47-clause-longest
returns-then-byte-eq47-clause-longest c =
    let ends = comment-ends c.loop-rest.star _ _ c.loop-rest.invariant.0 c.in-len1-up.len_at_least c.if-star.true c.if-byte-eq47.true in
    rw c.past_splices-rest.ensures.after ends
