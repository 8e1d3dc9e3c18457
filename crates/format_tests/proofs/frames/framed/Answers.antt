use Rattle.std.proofs.Common.{map, rules}
use Rattle.printf_grammar.specs.Types.{Fits}
use Rattle.arg_records.proofs.lemmas.Fitted.{AreArguments-from_Fits}
use Rattle.format_tests.proofs.frames.framed.Goals as goal

pub frame_words-requires-clause-arguments : goal.frame_words-requires-clause-arguments
frame_words-requires-clause-arguments c =
    let fits : Fits (map (λ value. value) c.args.args.now) c.args.types.now = search rules in
    AreArguments-from_Fits (map (λ value. value) c.args.args.now) c.args.types.now fits c.requires.few
