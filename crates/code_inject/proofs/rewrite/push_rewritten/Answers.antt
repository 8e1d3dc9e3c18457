use Rattle.std.proofs.Common.{◌≡◌, ℕ, List, ◌++◌, take, vec_len, rules, ap, ◌∙◌}
use Rattle.std.proofs.lemmas.List.{take_rest}
use Rattle.log_dictionary.proofs.lemmas.Appending.{kept}
use Rattle.code_inject.proofs.Gathered.{heads_end}
use Rattle.code_inject.proofs.Rewriting.{next_head, appended_again, head_appended, rest_appended}
use Rattle.code_inject.proofs.rewrite.push_rewritten.Goals as goal

pub push_head-requires-clause-within : goal.push_head-requires-clause-within
push_head-requires-clause-within c = heads_end _ _ _ (next_head c.args.rewrites.now c.loop-rewrite.rewrite-index _ c.loop-rewrite.from _ c.loop-rewrite-test.true c.loop-rewrite.invariant.heads).2

pub returns-in_err-push_head-clause-err : goal.returns-in_err-push_head-clause-err
returns-in_err-push_head-clause-err c =
    let stands : take (vec_len c.args.out.now) c.push_head.new.out.items ≡ c.args.out.now.items =
    kept _ _ _ _ _ _ c.args.out.now.ok.0 c.loop-rewrite.out.ok.0 c.loop-rewrite.invariant.begun.1 c.in_err-push_head.ensures.err in
    search rules

pub loop-rewrite-preserved : goal.loop-rewrite-preserved
loop-rewrite-preserved c =
    let at = c.loop-rewrite in
    record {
      begun = appended_again c.args.out.now.items at.out.items _ _ at.invariant.begun c.in_ok-push_head.ensures.ok;
      whole = head_appended c.args.source.now _ _ c.args.rewrites.now at.rewrite-index _ at.from _ c.loop-rewrite-test.true c.in_ok-push_head.ensures.ok at.invariant.whole;
      heads = (next_head c.args.rewrites.now at.rewrite-index _ at.from _ c.loop-rewrite-test.true at.invariant.heads).2;
    }

pub returns-clause-ok : goal.returns-clause-ok
returns-clause-ok c =
    rest_appended c.args.source.now _ _ c.args.rewrites.now c.loop-rewrite.rewrite-index c.loop-rewrite.from _ c.loop-rewrite-test.false (c.in_ok-extend_from_slice.ensures.items ∙ ap (λ (l : List ℕ). c.loop-rewrite.out.items ++ l) (take_rest c.args.source.now c.loop-rewrite.from)) c.loop-rewrite.invariant.whole
