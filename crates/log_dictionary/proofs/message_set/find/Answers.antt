use Rattle.std.proofs.Common.{◌≡◌, ◌≤◌, ℕ, None, Some, length, sym, ap, subst, ◌∙◌, arith}
use Rattle.std.proofs.lemmas.Bool.{false≢true}
use Rattle.std.proofs.lemmas.Option.{same_Some}
use Rattle.indexmap.specs.IndexMap.{keys, values}
use Rattle.log_dictionary.specs.declared.message_set.Key.{Key}
use Rattle.log_dictionary.specs.Messages.{SameMessage}
use Rattle.log_dictionary.specs.Places.{key_of, place_of, IsFreeKey}
use Rattle.log_dictionary.proofs.lemmas.Distinct.{same_from_test, test_from_same}
use Rattle.log_dictionary.proofs.Places.{as_long, stands, past_is_absent, one_more_elsewhere, is_nowhere, is_free}
use Rattle.log_dictionary.proofs.message_set.find.Goals as goal

abbrev key : ℕ → ℕ → Key
key hash nth = record { hash = hash; nth = nth }

pub loop-nth-init : goal.loop-nth-init
loop-nth-init c = λ nth lt. absurd (omega (arith, lt))

absent : (c : goal.In_default) → place_of (keys c.args.messages.now) (key_of c.args.message.now c.loop-nth.nth) ≡ None
absent c =
    ap (λ (h : ℕ). place_of (keys c.args.messages.now) (key h c.loop-nth.nth)) (sym c.hash_of-hash.ensures.value) ∙ sym c.in_default.ensures.index

pub returns-in_default-clause-none : goal.returns-in_default-clause-none
returns-in_default-clause-none c =
    is_nowhere (keys c.args.messages.now) (values c.args.messages.now) c.args.message.now c.loop-nth.nth c.requires c.loop-nth.invariant (absent c)

pub returns-in_default-clause-free : goal.returns-in_default-clause-free
returns-in_default-clause-free c =
    let message = c.args.message.now in
    let names = keys c.args.messages.now in
    let are = c.as_slice-others.ensures ∙ c.values.ensures.rest in
    let few : c.loop-nth.nth ≤ length names = omega (arith, c.loop-nth-test.true, ap length are, as_long c.args.messages.now.entries) in
    subst (λ (h : ℕ). IsFreeKey names message (key h c.loop-nth.nth)) (sym c.hash_of-hash.ensures.value) (is_free names (values c.args.messages.now) message c.loop-nth.nth c.loop-nth.invariant (absent c) few)

pub returns-then-eq-clause-found : goal.returns-then-eq-clause-found
returns-then-eq-clause-found c =
    let other = c.index-others-place.result in
    let is = stands (values c.args.messages.now) c.as_slice-others.result.now _ c.in-Some.place other (c.as_slice-others.ensures ∙ c.values.ensures.rest) (sym c.values.ensures.len ∙ ap length c.values.ensures.rest) c.in-Some.ensures.within c.index-others-place.is in
    (other, is, same_from_test c.args.message.now other (sym c.eq.ensures ∙ c.if-eq.true))

pub loop-nth-preserved : goal.loop-nth-preserved
loop-nth-preserved c =
    let message = c.args.message.now in
    let names = keys c.args.messages.now in
    let other = c.index-others-place.result in
    let at : place_of names (key_of message c.loop-nth.nth) ≡ Some c.in-Some.place =
    ap (λ (h : ℕ). place_of names (key h c.loop-nth.nth)) (sym c.hash_of-hash.ensures.value) ∙ sym c.in-Some.ensures.index in
    let is = stands (values c.args.messages.now) c.as_slice-others.result.now _ c.in-Some.place other (c.as_slice-others.ensures ∙ c.values.ensures.rest) (sym c.values.ensures.len ∙ ap length c.values.ensures.rest) c.in-Some.ensures.within c.index-others-place.is in
    one_more_elsewhere names (values c.args.messages.now) message c.loop-nth.nth c.in-Some.place c.loop-nth.invariant at (λ id. false≢true (sym c.if-eq.false ∙ c.eq.ensures ∙ test_from_same message other (subst (SameMessage message) (same_Some _ _ (sym id.1 ∙ is)) id.2)))

pub returns-clause-none : goal.returns-clause-none
returns-clause-none c =
    let message = c.args.message.now in
    let names = keys c.args.messages.now in
    let all = values c.args.messages.now in
    let are = c.as_slice-others.ensures ∙ c.values.ensures.rest in
    is_nowhere names all message c.loop-nth.nth c.requires c.loop-nth.invariant (past_is_absent names all (key_of message c.loop-nth.nth) c.requires (omega (arith, c.loop-nth-test.false, ap length are)))

pub returns-clause-free : goal.returns-clause-free
returns-clause-free c =
    let message = c.args.message.now in
    let names = keys c.args.messages.now in
    let all = values c.args.messages.now in
    let are = c.as_slice-others.ensures ∙ c.values.ensures.rest in
    let none = past_is_absent names all (key_of message c.loop-nth.nth) c.requires (omega (arith, c.loop-nth-test.false, ap length are)) in
    let few : c.loop-nth.nth ≤ length names = omega (arith, c.loop-nth.auto.nth-end, ap length are, as_long c.args.messages.now.entries) in
    let last : c.loop-nth.nth ≡ length c.as_slice-others.result.now = omega (arith, c.loop-nth.auto.nth-end, c.loop-nth-test.false) in
    subst (λ (n : ℕ). IsFreeKey names message (key c.hash_of-hash.result n)) last (subst (λ (h : ℕ). IsFreeKey names message (key h c.loop-nth.nth)) (sym c.hash_of-hash.ensures.value) (is_free names all message c.loop-nth.nth c.loop-nth.invariant none few))
