-- What an argument is that a C program gives.
use Rattle.std.specs.Prelude.{[], ◌∷◌, ◌==◌, if◌then◌else◌}
use Rattle.std.specs.Int.{w64, cast_signed}
use Rattle.printf_grammar.specs.declared.argument.Value.{Value}
use Rattle.printf_grammar.specs.declared.argument.Value.TheVariants.{Signed, Unsigned, Text}
use Rattle.log_ends.specs.declared.argument.CArgument.{CArgument}
use Rattle.log_ends.specs.declared.argument.TheConstants.{SIGNED, UNSIGNED, TEXT}

-- the number in the word, or the text; an argument of no kind is a text of one NUL, which no conversion takes
abbrev pub argument_given : CArgument → Value
argument_given argument =
    if argument.tag == SIGNED then Signed (cast_signed w64 argument.word)
    else if argument.tag == UNSIGNED then Unsigned argument.word
    else if argument.tag == TEXT then Text argument.text.now
    else Text (0 ∷ [])
