use Rattle.buffer_extent.proofs.Staging.{text_within, text_put}
use Rattle.buffer_extent.proofs.staged.put_argument_text.Goals as goal

pub put_words-requires-clause-len : goal.put_words-requires-clause-len
put_words-requires-clause-len c = let it = c.requires in text_within c.args.kind c.args.words.now it.0 c.in-Text.is it.1 it.3

pub returns-in-Text-clause-written : goal.returns-in-Text-clause-written
returns-in-Text-clause-written c = λ value fits bytes is. text_put c.args.kind c.args.words.now value c.args.body.now c.put_words.new.body c.args.at c.in-Text.is fits bytes is c.put_words.ensures.written
