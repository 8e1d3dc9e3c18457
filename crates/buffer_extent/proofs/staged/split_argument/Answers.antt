use Rattle.std.proofs.Common.{sym, ◌∙◌, arith}
use Rattle.buffer_extent.proofs.Staging.{front_split, front_room, text_first}
use Rattle.buffer_extent.proofs.staged.split_argument.Goals as goal

pub split_at-requires : goal.split_at-requires
split_at-requires c =
    let it = c.requires in
    omega (arith, c.text_words.ensures, text_first c.args.kind c.args.words.now it.0 it.1 it.2 c.in-Text.is, front_room c.args.kind c.args.words.now it.0 it.1 it.2)

pub returns-in-Text : goal.returns-in-Text
returns-in-Text c = λ value more begins.
    front_split c.args.kind c.args.words.now value more _ _ c.text_words.result begins (c.text_words.ensures ∙ sym (text_first c.args.kind c.args.words.now value more begins c.in-Text.is)) c.split_at.ensures.front c.split_at.ensures.back
