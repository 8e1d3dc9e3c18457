use Rattle.std.proofs.Common.{◌<◌, ℕ, List, [], ◌∷◌, length, ap, sym, ◌∙◌, arith}
use Rattle.std.proofs.lemmas.List.{nil_from_length}
use Rattle.std.proofs.lemmas.Bool.{eqb-true}
use Rattle.arg_records.specs.Frames.{words_of_bytes}
use Rattle.arg_records.specs.Places.{with_words}
use Rattle.arg_records.proofs.lemmas.Places.{word_first, no_words, one_word}
use Rattle.arg_records.proofs.Bytes.{first_word, only_word}
use Rattle.arg_records.proofs.words.put_bytes.Goals as goal

pub loop-front-preserved : goal.loop-front-preserved
loop-front-preserved c =
    let parts = c.in-Some.ensures.cases in
    record {
      places = omega (arith, parts.2);
      left = word_first _ _ _ _ (omega (arith, parts.2))
          ∙ ap (with_words c.loop-front.into c.loop-front.end) (sym (first_word c.loop-front.rest.now c.in-Some.front.now c.in-Some.back.now c.from_le_bytes.result (omega (arith, parts.2)) parts.0 parts.1 c.from_le_bytes.ensures))
          ∙ c.loop-front.invariant.left;
    }

pub returns-then-is_empty-clause-written : goal.returns-then-is_empty-clause-written
returns-then-is_empty-clause-written c =
    let none = nil_from_length c.loop-front.rest.now (eqb-true _ _ (sym c.is_empty.ensures ∙ c.if-is_empty.true)) in
    sym (no_words c.loop-front.into c.loop-front.end) ∙ ap (λ (rest : List ℕ). with_words c.loop-front.into c.loop-front.end (words_of_bytes rest)) (sym none) ∙ c.loop-front.invariant.left

pub returns-clause-written : goal.returns-clause-written
returns-clause-written c =
    let some : 0 < length c.loop-front.rest.now = grind (arith, c.is_empty.ensures, c.if-is_empty.false) in
    one_word c.loop-front.into c.loop-front.end c.last_word.result (omega arith)
    ∙ ap (λ (word : ℕ). with_words c.loop-front.into c.loop-front.end (word ∷ [])) c.last_word.ensures
    ∙ ap (with_words c.loop-front.into c.loop-front.end) (sym (only_word c.loop-front.rest.now c.in_default.ensures.cases some))
    ∙ c.loop-front.invariant.left
