use Rattle.std.proofs.Common.{◌+◌, ◌∙◌, length, take, drop, sym, ap, eq-eqb, arith}
use Rattle.std.proofs.lemmas.List.{take_all, drop_all}
use Rattle.std.specs.List.{position_or_len}
use Rattle.source_scan.specs.Items.{is_quote}
use Rattle.source_scan.proofs.Texts.{quote-place}
use Rattle.source_scan.proofs.literals.split_at_quote.Goals as goal

pub returns-then-byte-eq34-clause-before : goal.returns-then-byte-eq34-clause-before
returns-then-byte-eq34-clause-before c =
    let place = quote-place c.args.bytes.now c.loop-place.place c.loop-place.auto.place-end c.loop-place.invariant (λ below. eq-eqb _ 34 c.if-byte-eq34.true) in
    c.split_at.ensures.front ∙ ap (λ n. take n c.args.bytes.now) (sym place)

pub returns-then-byte-eq34-clause-behind : goal.returns-then-byte-eq34-clause-behind
returns-then-byte-eq34-clause-behind c =
    let place = quote-place c.args.bytes.now c.loop-place.place c.loop-place.auto.place-end c.loop-place.invariant (λ below. eq-eqb _ 34 c.if-byte-eq34.true) in
    c.split_at-then-byte-eq34.ensures.back ∙ ap (λ n. drop (n + 1) c.args.bytes.now) (sym place)

pub returns-clause-before : goal.returns-clause-before
returns-clause-before c =
    let past = c.loop-place-test.false in
    let place = quote-place c.args.bytes.now c.loop-place.place c.loop-place.auto.place-end c.loop-place.invariant (λ below. absurd (omega (arith, below, past))) in
    sym (take_all c.loop-place.place c.args.bytes.now past) ∙ ap (λ n. take n c.args.bytes.now) (sym place)

pub returns-clause-behind : goal.returns-clause-behind
returns-clause-behind c =
    let past = c.loop-place-test.false in
    let place = quote-place c.args.bytes.now c.loop-place.place c.loop-place.auto.place-end c.loop-place.invariant (λ below. absurd (omega (arith, below, past))) in
    c.split_at-2.ensures.back ∙ drop_all (length c.args.bytes.now) c.args.bytes.now (omega arith) ∙ sym (drop_all (position_or_len is_quote c.args.bytes.now + 1) c.args.bytes.now (omega (arith, place, past)))
