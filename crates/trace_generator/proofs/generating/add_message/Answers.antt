use Rattle.std.proofs.Common.{◌<◌, ◌++◌, ◌∷◌, [], ap, sym, ◌∙◌, subst}
use Rattle.std.specs.List.{AllByRecursion}
use Rattle.log_dictionary.specs.declared.message.Message.{Message}
use Rattle.trace_generator.proofs.GeneratedCalls.{added}
use Rattle.trace_generator.proofs.generating.add_message.Goals as goal

pub returns-in-Ok : goal.returns-in-Ok
returns-in-Ok c pieces spelled =
    let is = c.in_ok-message.ensures pieces spelled in
    let later = subst (λ line. AllByRecursion (λ (message : Message). message.line < line) c.args.dictionary.now) (sym (ap (λ (message : Message). message.line) is)) c.requires.later in
    added c.args.dictionary.now c.add.new.self c.in_ok-message.message c.in-Ok.field-0 c.in-Ok.ensures.ok later
    ∙ ap (λ (message : Message). c.args.dictionary.now ++ message ∷ []) is
