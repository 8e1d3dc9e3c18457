use Rattle.std.proofs.Common.{ℕ, List, refl, subst}
use Rattle.source_tokens.specs.Forms.{is_comment_tail, is_comment_body}
use Rattle.source_tokens.specs.Reading.{EndsLongest}
use Rattle.source_tokens.proofs.lemmas.Passing.{passes-none, ends-nothing, longest-front}
use Rattle.source_tokens.proofs.comment.past_comment.Goals as goal

pub returns-in-empty-clause-longest : goal.returns-in-empty-clause-longest
returns-in-empty-clause-longest c = ends-nothing is_comment_tail is_comment_tail c.args.bytes.now c.args.bytes.now (passes-none is_comment_tail c.args.bytes.now) refl c.in-empty.len_below

pub returns-in-len1-up-clause-longest : goal.returns-in-len1-up-clause-longest
returns-in-len1-up-clause-longest c =
    longest-front is_comment_tail is_comment_body c.args.bytes.now c.past_comment_body.result.now c.in-len1-up.len_at_least (λ more. refl)
    (subst (λ (front : List ℕ). EndsLongest is_comment_body front c.past_comment_body.result.now) c.past_splices.ensures.after c.past_comment_body.ensures.longest)
