use Rattle.std.proofs.Common.{◌≡◌, true, false, get_or, sym, ◌∙◌, subst, arith}
use Rattle.std.proofs.lemmas.Bool.{both_ways}
use Rattle.source_tokens.specs.Bytes.{is_number_byte}
use Rattle.source_tokens.specs.Forms.{is_number_tail}
use Rattle.source_tokens.proofs.lemmas.Passing.{Passes, passes-none}
use Rattle.source_tokens.proofs.Numbers.{goes_on_alone, number-front, number-pair, number-nothing, number-ends}
use Rattle.source_tokens.proofs.number.past_number.Goals as goal

pub loop-rest-init : goal.loop-rest-init
loop-rest-init c = (passes-none (is_number_tail c.args.first) _, omega arith)

pub loop-rest-preserved-then-goes_on : goal.loop-rest-preserved-then-goes_on
loop-rest-preserved-then-goes_on c =
    let byte = get_or c.loop-rest.rest.now 0 0 in
    let on : goes_on_alone c.loop-rest.before byte ≡ true = sym c.goes_on.ensures ∙ c.if-goes_on.true in
    let passes = number-front c.args.first c.loop-rest.before _ _ c.loop-rest.invariant.0 c.in-len1-up.len_at_least on in
    (subst (Passes (is_number_tail c.args.first) (is_number_tail byte) c.args.bytes.now) (sym c.past_splices-behind.ensures.after) passes, omega arith)

pub loop-rest-preserved : goal.loop-rest-preserved
loop-rest-preserved c =
    let digit : is_number_byte (get_or c.past_splices-behind.result.now 0 0) ≡ true = sym c.is_number_byte.ensures ∙ c.if-is_number_byte.true in
    let passes = number-pair c.args.first c.loop-rest.before _ _ _ c.past_splices-behind.ensures.after c.loop-rest.invariant.0 c.in-len1-up.len_at_least c.if-byte-ne39.false c.in-len1-up-behind.len_at_least digit in
    (subst (Passes (is_number_tail c.args.first) (is_number_tail (get_or c.past_splices-behind.result.now 0 0)) c.args.bytes.now) (sym c.past_splices-rest.ensures.after) passes, omega arith)

pub returns-in_default-clause-longest : goal.returns-in_default-clause-longest
returns-in_default-clause-longest c = number-nothing c.args.first c.loop-rest.before _ _ c.loop-rest.invariant.0 c.in_default.len_below

pub returns-then-byte-ne39-clause-longest : goal.returns-then-byte-ne39-clause-longest
returns-then-byte-ne39-clause-longest c =
    let off : goes_on_alone c.loop-rest.before (get_or c.loop-rest.rest.now 0 0) ≡ false = sym c.goes_on.ensures ∙ c.if-goes_on.false in
    number-ends c.args.first c.loop-rest.before _ _ _ c.past_splices-behind.ensures.after c.loop-rest.invariant.0 c.in-len1-up.len_at_least off (λ mark some digit. c.if-byte-ne39.true mark)

pub returns-in_default-behind-clause-longest : goal.returns-in_default-behind-clause-longest
returns-in_default-behind-clause-longest c =
    let off : goes_on_alone c.loop-rest.before (get_or c.loop-rest.rest.now 0 0) ≡ false = sym c.goes_on.ensures ∙ c.if-goes_on.false in
    number-ends c.args.first c.loop-rest.before _ _ _ c.past_splices-behind.ensures.after c.loop-rest.invariant.0 c.in-len1-up.len_at_least off (λ mark some digit. omega arith)

pub returns-in_default-behind-2-clause-longest : goal.returns-in_default-behind-2-clause-longest
returns-in_default-behind-2-clause-longest c =
    let off : goes_on_alone c.loop-rest.before (get_or c.loop-rest.rest.now 0 0) ≡ false = sym c.goes_on.ensures ∙ c.if-goes_on.false in
    number-ends c.args.first c.loop-rest.before _ _ _ c.past_splices-behind.ensures.after c.loop-rest.invariant.0 c.in-len1-up.len_at_least off
    (λ mark some digit. both_ways _ (sym c.is_number_byte.ensures ∙ c.if-is_number_byte.false) digit)
