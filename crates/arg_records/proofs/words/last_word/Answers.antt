use Rattle.std.proofs.Common.{◌≡◌, ◌-◌, ◌^◌, ◌<◌, ℕ, length, drop, ap, sym, ◌∙◌, arith}
use Rattle.std.proofs.lemmas.List.{drop_all}
use Rattle.nibble_pack.specs.Bytes.{number_of_bytes}
use Rattle.arg_records.proofs.Bytes.{word_grows, word_small, word_fits}
use Rattle.arg_records.proofs.words.last_word.Goals as goal

pub loop-at-init : goal.loop-at-init
loop-at-init c =
    let none : length c.args.bytes.now - length c.args.bytes.now ≡ 0 = omega arith in
    record {
      within = omega arith;
      word = sym (ap number_of_bytes (drop_all (length c.args.bytes.now) c.args.bytes.now (omega arith)));
      small = omega (arith, ap (λ (k : ℕ). 256 ^ k) none);
    }

pub loop-at-preserved : goal.loop-at-preserved
loop-at-preserved c =
    let inv = c.loop-at.invariant in
    record {
      within = omega (arith, inv.within);
      word = word_grows c.args.bytes.now c.loop-at.at c.loop-at.word c.from.result (omega (arith, c.loop-at-test.true)) inv.within inv.word c.from.ensures;
      small = word_small (length c.args.bytes.now) c.loop-at.at c.loop-at.word c.from.result (omega (arith, c.loop-at-test.true)) inv.within inv.small (omega (arith, c.from.ensures, c.type_inv.bytes (c.loop-at.at - 1)));
    }

pub overflow_mul-word : goal.overflow_mul-word
overflow_mul-word c =
    omega (arith, word_fits (length c.args.bytes.now) c.loop-at.at c.loop-at.word (omega (arith, c.loop-at-test.true)) c.loop-at.invariant.within c.requires c.loop-at.invariant.small)

pub overflow_add-word : goal.overflow_add-word
overflow_add-word c =
    omega (arith, c.from.ensures, c.type_inv.bytes (c.loop-at.at - 1), word_fits (length c.args.bytes.now) c.loop-at.at c.loop-at.word (omega (arith, c.loop-at-test.true)) c.loop-at.invariant.within c.requires c.loop-at.invariant.small)

pub returns : goal.returns
returns c =
    let begun : c.loop-at.at ≡ 0 = omega (arith, c.loop-at-test.false) in
    c.loop-at.invariant.word ∙ ap (λ (k : ℕ). number_of_bytes (drop k c.args.bytes.now)) begun
