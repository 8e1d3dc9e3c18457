use Rattle.std.proofs.Common.{◌∷◌, ◌+◌, List, ℕ, length, take, drop, get_or, sym, ap, ◌∙◌, arith}
use Rattle.arg_records.specs.Frames.{words_of_argument}
use Rattle.arg_records.proofs.lemmas.Lengths.{some_words}
use Rattle.buffer_extent.proofs.Packing.{first_of_words, length-its_bytes}
use Rattle.buffer_extent.proofs.staged.put_number.Goals as goal

pub bounds-argument-0 : goal.bounds-argument-0
bounds-argument-0 c = let (value, more, begins) = c.requires.words in omega (arith, ap length (c.split_argument.ensures value more begins).0, some_words value)

pub returns-clause-written : goal.returns-clause-written
returns-clause-written c = λ value more begins.
    let is = c.split_argument.ensures value more begins in
    let number = c.pack_word-number.result in
    let first = first_of_words value ∙ ap (λ (ws : List ℕ). get_or ws 0 0 ∷ drop 1 (words_of_argument value)) (sym is.0) in (
      record {
        bytes = take number.len number.bytes;
        packed = c.pack_word-number.ensures.packs value (drop 1 (words_of_argument value)) begins.fits first;
        written = c.put_packed-end.ensures.written;
        behind = c.put_packed-end.ensures.end ∙ ap (λ (n : ℕ). c.args.at + n) (sym (length-its_bytes number c.pack_word-number.ensures.whole));
      },
      is.1,
    )

pub returns-clause-bound : goal.returns-clause-bound
returns-clause-bound c = let few = c.pack_word-number.ensures.whole.few in (omega arith, omega arith)
