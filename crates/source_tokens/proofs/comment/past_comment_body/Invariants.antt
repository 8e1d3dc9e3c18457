use Rattle.std.proofs.Common.{◌≤◌, length}
use Rattle.source_tokens.specs.Forms.{is_comment_body}
use Rattle.source_tokens.proofs.Comments.{left_of}
use Rattle.source_tokens.proofs.lemmas.Passing.{Passes}
use Rattle.source_tokens.proofs.comment.past_comment_body.Given as goal

abbrev pub invariant-loop-rest : goal.invariant-loop-rest
invariant-loop-rest l = Passes is_comment_body (left_of l.star) l.bytes l.rest × (length l.rest ≤ length l.bytes)

abbrev pub decreases-loop-rest : goal.decreases-loop-rest
decreases-loop-rest l = length l.rest
