use Rattle.std.proofs.Common.{◌≡◌, ◌+◌, ◌-◌, [], ◌∷◌, ◌++◌, length, refl, sym, subst, ap, ◌∙◌, arith}
use Rattle.source_tokens.specs.Splices.{past_splices}
use Rattle.source_tokens.specs.Tokens.{past_front, front_tokens}
use Rattle.source_tokens.proofs.Lists.{TokensTo, tokens-front, tokens-push, tokens-end}
use Rattle.source_tokens.proofs.source.parts.Goals as goal

pub loop-found-init : goal.loop-found-init
loop-found-init c =
    let source = c.args.source.now in
    let rest = c.past_splices-rest.result.now in
    let front = length source - length rest in
    let is_front : rest ≡ past_front source = c.past_splices-rest.ensures.after ∙ ap past_splices c.past_mark.ensures.after in
    let front_is : front + length (past_front source) ≡ length source = omega (arith, ap length is_front) in
    let to = tokens-front source front (front_tokens front) front_is refl in
    (front_tokens front, subst (TokensTo source (front_tokens front)) (sym is_front) to, c.in_ok-lines.ensures, omega arith)

pub loop-found-preserved : goal.loop-found-preserved
loop-found-preserved c =
    let so_far = c.loop-found.invariant in
    let next = tokens-push c.args.source.now so_far.0 c.loop-found.rest.now c.token_of.result c.in-Some.found.rest.now so_far.1 c.token_of.ensures in
    (so_far.0 ++ c.token_of.result ∷ [], next, c.in_ok-push.ensures so_far.0 so_far.2, omega (arith, c.in-Some.ensures.1))

pub returns : goal.returns
returns c =
    let so_far = c.loop-found.invariant in
    record { tokens = so_far.0; tokens_are = tokens-end c.args.source.now so_far.0 c.loop-found.rest.now so_far.1 c.in_default.ensures; in_lines = c.in_ok-parts.ensures so_far.0 so_far.2 }
