use Rattle.std.proofs.Common.{◌≡◌, ◌+◌, ◌-◌, length, sym, subst, ap, ◌∙◌, arith}
use Rattle.source_tokens.specs.Splices.{past_splices}
use Rattle.source_tokens.specs.Tokens.{past_front}
use Rattle.source_tokens.proofs.Lists.{TokensTo, tokens-front, tokens-push}
use Rattle.source_tokens.proofs.source.tokens.Goals as goal

pub loop-found-init : goal.loop-found-init
loop-found-init c =
    let source = c.args.source.now in
    let rest = c.past_splices-rest.result.now in
    let is_front : rest ≡ past_front source = c.past_splices-rest.ensures.after ∙ ap past_splices c.past_mark.ensures.after in
    let front_is : (length source - length rest) + length (past_front source) ≡ length source = omega (arith, ap length is_front) in
    (subst (TokensTo source c.in_ok-tokens.tokens) (sym is_front) (tokens-front source (length source - length rest) c.in_ok-tokens.tokens front_is c.in_ok-tokens.ensures), omega arith)

pub loop-found-preserved : goal.loop-found-preserved
loop-found-preserved c =
    let next = tokens-push c.args.source.now c.loop-found.tokens c.loop-found.rest.now c.token_of.result c.in-Some.found.rest.now c.loop-found.invariant.0 c.token_of.ensures in
    (rw c.in_ok-push.ensures.ok next, omega (arith, c.in-Some.ensures.1))
