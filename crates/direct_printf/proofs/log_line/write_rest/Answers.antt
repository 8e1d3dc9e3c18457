use Rattle.std.proofs.Common.{◌≡◌, ◌≤◌, ◌+◌, ◌-◌, ◌<◌, ◌^◌, ◌++◌, ℕ, List, codes, drop, take, ap, sym, ◌∙◌, arith, rules}
use Rattle.std.proofs.lemmas.Fmt.{length-decimal-le}
use Rattle.std.proofs.lemmas.List.{drop_all, drop-drop, drop-take, take-take}
use Rattle.std.proofs.lemmas.Slice.{take-put_mid_below}
use Rattle.std.specs.Fmt.{decimal}
use borrow.Rule.Slice.PartMut.{put_mid}
use Rattle.direct_printf.proofs.Plain.{Digits-nine}
use Rattle.direct_printf.proofs.Writing.{drop-put_mid_at}
use Rattle.direct_printf.proofs.log_line.write_rest.Goals as goal

pub write_digits-requires : goal.write_digits-requires
write_digits-requires c = search (rules, length-decimal-le 30)

pub returns-clause-second : goal.returns-clause-second
returns-clause-second c =
    let w = c.write_digits in
    let same : c.from.result ≡ c.args.rest = search rules in
    let most = length-decimal-le 9 c.from.result (omega arith) (omega (arith, same, c.requires)) (omega (arith, same, c.requires)) in
    let behind : 20 ≤ w.result = omega (arith, most, w.ensures.start) in
    sym (take-take 20 w.result w.new.buf behind) ∙ ap (take 20) w.ensures.before ∙ take-take 20 w.result _ behind ∙ take-put_mid_below 20 11 c.args.text.now c.copy_from_slice.new.self 20 (omega arith) (omega (arith, c.told-text))

pub returns-clause-rest : goal.returns-clause-rest
returns-clause-rest c =
    let w = c.write_digits in
    let same : c.from.result ≡ c.args.rest = search rules in
    let few : c.from.result < 10 ^ 9 = omega (arith, same, c.requires) in
    let most = length-decimal-le 9 c.from.result (omega arith) few (omega (arith, few)) in
    let at : 20 + (w.result - 20) ≡ w.result = omega (arith, most, w.ensures.start) in
    let wiped : List ℕ = put_mid 20 11 c.args.text.now c.copy_from_slice.new.self in
    let blank = drop-put_mid_at 20 11 31 c.args.text.now c.copy_from_slice.new.self (codes ".000000000 ") (omega (arith, c.told-text)) c.copy_from_slice.ensures.after (omega arith) ∙ ap (λ l. codes ".000000000 " ++ l) (drop_all 31 c.args.text.now (omega (arith, c.told-text))) in
    let before = sym (drop-take 20 (w.result - 20) w.new.buf) ∙ ap (λ (n : ℕ). drop 20 (take n w.new.buf)) at ∙ ap (drop 20) w.ensures.before ∙ ap (λ (n : ℕ). drop 20 (take n wiped)) (sym at) ∙ drop-take 20 (w.result - 20) wiped ∙ ap (take (w.result - 20)) blank in
    let written = drop-drop (w.result - 20) 20 w.new.buf ∙ ap (λ (n : ℕ). drop n w.new.buf) at ∙ w.ensures.written ∙ ap (λ l. decimal c.from.result ++ l) (sym (drop-drop 10 20 wiped) ∙ ap (drop 10) blank) in
    rw same at (Digits-nine c.from.result (w.result - 20) (drop 20 w.new.buf) most (omega (arith, at, w.ensures.start)) before written)
