use Rattle.std.proofs.Common.{◌≡◌, ◌+◌, ◌-◌, ◌++◌, ℕ, List, take, drop, get_or, rules, refl, sym, ap, ◌∙◌, append_assoc}
use Rattle.std.specs.Int.{w64, to_le_bytes}
use Rattle.std.proofs.lemmas.List.{drop_more}
use Rattle.arg_records.specs.Reading.{bytes_of_words}
use Rattle.arg_records.proofs.lemmas.TextWords.{take_both}
use Rattle.arg_records.proofs.read.copy_text.Goals as goal

pub loop-word-preserved : goal.loop-word-preserved
loop-word-preserved c =
    let words = c.args.words.now in
    let place = c.loop-word.word-index in
    let left = c.loop-word.left in
    let count = c.min-count.result in
    let word = get_or words place 0 in
    let rest = bytes_of_words (drop (place + 1) words) in
    let bytes : c.to_le_bytes.result ≡ to_le_bytes w64 word = c.to_le_bytes.ensures in
    let added : c.extend_from_slice.new.self ≡ c.loop-word.text ++ take count c.to_le_bytes.result = search rules in
    ap (λ (text : List ℕ). text ++ take (left - count) rest) added
    ∙ ap (λ (b : List ℕ). (c.loop-word.text ++ take count b) ++ take (left - count) rest) bytes
    ∙ append_assoc c.loop-word.text (take count (to_le_bytes w64 word)) (take (left - count) rest)
    ∙ ap (λ (b : List ℕ). c.loop-word.text ++ b) (sym (take_both left count (to_le_bytes w64 word) rest refl c.min-count.ensures))
    ∙ ap (λ (ws : List ℕ). c.loop-word.text ++ take left (bytes_of_words ws)) (sym (drop_more words place 0 c.loop-word-test.true))
    ∙ c.loop-word.invariant
