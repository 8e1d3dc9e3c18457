use Rattle.std.proofs.Common.{◌≡◌, ℕ, ◌≤◌, Bool, true, false, ◌&&◌, List, length, get_or, refl, sym, subst, ap, ◌∙◌, arith}
use Rattle.std.specs.List.{list_all}
use Rattle.source_tokens.specs.Bytes.{is_of_class}
use Rattle.source_tokens.specs.Splices.{past_splices}
use Rattle.source_tokens.specs.Reading.{EndsLongest}
use Rattle.source_tokens.proofs.lemmas.Passing.{Passes, back_of, passes-none, passes-front, ends-nothing, ends-front}
use Rattle.source_tokens.proofs.run.past_run.Goals as goal

run-front : (test : ℕ → Bool) (bytes rest : List ℕ) → Passes (list_all test) (list_all test) bytes rest → 1 ≤ length rest → test (get_or rest 0 0) ≡ true → Passes (list_all test) (list_all test) bytes (past_splices (back_of rest))
run-front test bytes rest passes some right = passes-front (list_all test) (list_all test) (list_all test) bytes rest passes some (λ more. ap (λ first. first && list_all test more) right)

run-ends : (test : ℕ → Bool) (bytes rest : List ℕ) → Passes (list_all test) (list_all test) bytes rest → 1 ≤ length rest → test (get_or rest 0 0) ≡ false → EndsLongest (list_all test) bytes rest
run-ends test bytes rest passes some wrong = ends-front (list_all test) (list_all test) bytes rest passes refl some (λ more behind reads. ap (λ first. first && list_all test more) wrong)

pub loop-rest-init : goal.loop-rest-init
loop-rest-init c = (passes-none _ _, omega arith)

pub loop-rest-preserved : goal.loop-rest-preserved
loop-rest-preserved c =
    (subst (Passes _ _ c.args.bytes.now) (sym c.past_splices-rest.ensures.after) (run-front (is_of_class c.args.class) c.args.bytes.now c.loop-rest.rest.now c.loop-rest.invariant.0 c.in-len1-up.len_at_least (sym c.has.ensures ∙ c.if-not-has.false)), omega arith)

pub returns-in_default-clause-longest : goal.returns-in_default-clause-longest
returns-in_default-clause-longest c = ends-nothing (list_all (is_of_class c.args.class)) (list_all (is_of_class c.args.class)) _ _ c.loop-rest.invariant.0 refl c.in_default.len_below

pub returns-then-not-has-clause-longest : goal.returns-then-not-has-clause-longest
returns-then-not-has-clause-longest c = run-ends (is_of_class c.args.class) _ _ c.loop-rest.invariant.0 c.in-len1-up.len_at_least (sym c.if-not-has.ensures)
