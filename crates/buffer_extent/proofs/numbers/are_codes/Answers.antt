use Rattle.std.proofs.Common.{◌≡◌, ◌+◌, ◌<◌, ℕ, Bool, true, false, List, length, get_or, drop, sym, ap, ◌∙◌, arith}
use Rattle.std.specs.Prelude.{◌&&◌}
use Rattle.std.proofs.lemmas.List.{drop_all}
use Rattle.printf_grammar.specs.declared.arg_type.ArgType.{ArgType}
use Rattle.printf_grammar.specs.declared.arg_type.ArgType.TheVariants.{Int}
use Rattle.buffer_extent.specs.Records.{kind_of}
use Rattle.buffer_extent.specs.Reading.{is_code, codes_in, are_codes}
use Rattle.buffer_extent.proofs.lemmas.Codes.{length-codes_in}
use Rattle.buffer_extent.proofs.Arguments.{codes_left}
use Rattle.buffer_extent.proofs.numbers.are_codes.Goals as goal

-- what the codes at a place and behind it are, by the one at the place
by_code : (types : List ArgType) (codes : List ℕ) (place code : ℕ) (test : Bool) → place < length types → place < length codes → code ≡ get_or codes place 0 → test ≡ is_code (kind_of (get_or types place Int)) code
    → are_codes (drop place types) (drop place codes) ≡ (test && are_codes (drop (place + 1) types) (drop (place + 1) codes))
by_code types codes place code test within coded is of_test =
    codes_left types codes place Int 0 within coded ∙ ap (λ (b : Bool). b && are_codes (drop (place + 1) types) (drop (place + 1) codes)) (ap (is_code (kind_of (get_or types place Int))) (sym is) ∙ sym of_test)

pub returns-then-not-is_code : goal.returns-then-not-is_code
returns-then-not-is_code c =
    let left = by_code c.args.types.now (codes_in c.args.codes.now) c.loop-place.place c.code_at.result c.is_code.result c.loop-place-test.true (omega (arith, c.requires, length-codes_in c.args.codes.now, c.loop-place-test.true)) c.code_at.ensures.code c.is_code.ensures in
    let refused : c.is_code.result ≡ false = cc in
    sym (c.loop-place.invariant ∙ left ∙ ap (λ (b : Bool). b && are_codes (drop (c.loop-place.place + 1) c.args.types.now) (drop (c.loop-place.place + 1) (codes_in c.args.codes.now))) refused)

pub loop-place-preserved : goal.loop-place-preserved
loop-place-preserved c =
    let left = by_code c.args.types.now (codes_in c.args.codes.now) c.loop-place.place c.code_at.result c.is_code.result c.loop-place-test.true (omega (arith, c.requires, length-codes_in c.args.codes.now, c.loop-place-test.true)) c.code_at.ensures.code c.is_code.ensures in
    let kept : c.is_code.result ≡ true = cc in
    c.loop-place.invariant ∙ left ∙ ap (λ (b : Bool). b && are_codes (drop (c.loop-place.place + 1) c.args.types.now) (drop (c.loop-place.place + 1) (codes_in c.args.codes.now))) kept

pub returns : goal.returns
returns c =
    let place : c.loop-place.place ≡ length c.args.types.now = omega (arith, c.loop-place-test.false, c.loop-place.auto.place-end) in
    let codes = codes_in c.args.codes.now in
    c.are_padded.ensures ∙ sym (c.loop-place.invariant ∙ (λ t. are_codes (drop_all c.loop-place.place c.args.types.now (omega arith) t) (drop (place t) codes)))
