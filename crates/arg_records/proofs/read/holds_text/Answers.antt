use Rattle.std.proofs.Common.{ℕ, List, ◌+◌, drop, get_or, rules, refl, sym, subst}
use Rattle.std.proofs.lemmas.List.{drop_more}
use Rattle.arg_records.specs.Reading.{IsPadded, bytes_of_words}
use Rattle.arg_records.proofs.lemmas.TextWords.{padded_parts, padded_both}
use Rattle.arg_records.proofs.read.holds_text.Goals as goal

pub returns-then-not-is_text_word : goal.returns-then-not-is_text_word
returns-then-not-is_text_word c = (
  λ h. absurd (search rules),
  λ padded.
      let words = c.args.words.now in
      let place = c.loop-word.word-index in
      let here = subst (λ (ws : List ℕ). IsPadded c.loop-word.left (bytes_of_words ws)) (drop_more words place 0 c.loop-word-test.true) (c.loop-word.invariant.1 padded) in
      let word = (padded_parts c.loop-word.left c.min-count.result (get_or words place 0) (drop (place + 1) words) c.min-count.ensures here).0 in
      let told = c.if-not-is_text_word.ensures.1 word in
      cc,
)

pub loop-word-preserved : goal.loop-word-preserved
loop-word-preserved c =
    let words = c.args.words.now in
    let place = c.loop-word.word-index in
    let more = drop_more words place 0 c.loop-word-test.true in
    let word = c.if-not-is_text_word.ensures.0 refl in (
      λ left. c.loop-word.invariant.0 (subst (λ (ws : List ℕ). IsPadded c.loop-word.left (bytes_of_words ws)) (sym more) (padded_both c.loop-word.left c.min-count.result (get_or words place 0) (drop (place + 1) words) c.min-count.ensures word left)),
      λ padded. (padded_parts c.loop-word.left c.min-count.result (get_or words place 0) (drop (place + 1) words) c.min-count.ensures (subst (λ (ws : List ℕ). IsPadded c.loop-word.left (bytes_of_words ws)) more (c.loop-word.invariant.1 padded))).1,
    )
