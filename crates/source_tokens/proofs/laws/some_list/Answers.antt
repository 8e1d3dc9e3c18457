use Rattle.std.proofs.Common.{◌≡◌, ◌+◌, ◌-◌, [], ◌∷◌, ◌++◌, length, refl, sym, subst, ap, ◌∙◌, arith}
use Rattle.source_tokens.specs.declared.token.Token.{Token}
use Rattle.source_tokens.specs.Splices.{past_splices}
use Rattle.source_tokens.specs.Tokens.{past_front, front_tokens}
use Rattle.source_tokens.proofs.Lists.{TokensTo, tokens-front, tokens-push, tokens-end}
use Rattle.source_tokens.proofs.SomeParts.{some_parts}
use Rattle.source_tokens.proofs.laws.some_list.Goals as goal

pub loop-found-init : goal.loop-found-init
loop-found-init c =
    let source = c.args.source.now in
    let rest = c.past_splices-rest.result.now in
    let front = length source - length rest in
    let is_front : rest ≡ past_front source = c.past_splices-rest.ensures.after ∙ ap past_splices c.past_mark.ensures.after in
    let front_is : front + length (past_front source) ≡ length source = omega (arith, ap length is_front) in
    let to = tokens-front source front (front_tokens front) front_is refl in
    (front_tokens front, subst (TokensTo source (front_tokens front)) (sym is_front) to, omega arith)

pub loop-found-preserved : goal.loop-found-preserved
loop-found-preserved c =
    let so_far = c.loop-found.invariant in
    let total = length c.args.source.now in
    let rest = c.loop-found.rest.now in
    let behind = c.in-Some.found.rest.now in
    let token : Token = record { kind = c.in-Some.found.kind; start = total - length rest; end = total - length behind } in
    let next = tokens-push c.args.source.now so_far.0 rest token behind so_far.1 (record { stands = c.in-Some.ensures.0; start = omega arith; end = omega (arith, c.in-Some.ensures.1) }) in
    (so_far.0 ++ token ∷ [], next, omega (arith, c.in-Some.ensures.1))

pub returns-clause-tokens : goal.returns-clause-tokens
returns-clause-tokens c =
    let so_far = c.loop-found.invariant in
    (so_far.0, tokens-end c.args.source.now so_far.0 c.loop-found.rest.now so_far.1 c.in_default.ensures)

pub returns-clause-parts : goal.returns-clause-parts
returns-clause-parts c =
    let so_far = c.loop-found.invariant in
    some_parts c.args.source.now so_far.0 (tokens-end c.args.source.now so_far.0 c.loop-found.rest.now so_far.1 c.in_default.ensures)
