use Rattle.std.proofs.Common.{◌∙◌, ◌+◌, ℕ, List, take, drop, get_or, sym, ap, arith}
use Rattle.std.proofs.lemmas.List.{drop_more}
use Rattle.arg_records.specs.Places.{with_words}
use Rattle.arg_records.specs.Reading.{bytes_of_words}
use Rattle.buffer_extent.proofs.Staging.{word_written}
use Rattle.buffer_extent.proofs.staged.put_words.Goals as goal

pub loop-word-preserved : goal.loop-word-preserved
loop-word-preserved c =
    let left = c.loop-word.left in
    let count = c.min-count.result in
    let words = c.args.words.now in
    let place = c.loop-word.word-index in
    let word = get_or words place 0 in
    record {
      few = omega (arith, c.loop-word.invariant.few, c.min-count.ensures, c.loop-word-test.true);
      places = omega (arith, c.put_front-end.ensures.end, c.loop-word.invariant.places, c.min-count.ensures);
      written = word_written c.loop-word.body c.put_front-end.new.body c.loop-word.end c.put_front-end.result left count word (drop (place + 1) words) c.put_front-end.ensures.written c.put_front-end.ensures.end c.min-count.ensures (omega (arith, c.loop-word.invariant.places, c.loop-word.auto.body, c.requires.room))
          ∙ ap (λ (ws : List ℕ). with_words c.loop-word.body c.loop-word.end (take left (bytes_of_words ws))) (sym (drop_more words place 0 c.loop-word-test.true)) ∙ c.loop-word.invariant.written;
    }
