use Rattle.checkpoint_io.proofs.HeaderLaws.{letters_answer}
use Rattle.checkpoint_io.proofs.header_reading.+read_letters.Goals as goal

pub returns-clause-read : goal.returns-clause-read
returns-clause-read g t c =
    letters_answer c.read_letters.result c.args.letters.now c.in_ok-take_byte.field-0 _ _ _ _ c.in-len1-up.len_at_least c.if-branch-letter.false c.in_ok-take_byte.ensures.read c.read_letters.ensures.read
