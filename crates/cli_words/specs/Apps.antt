-- What the reader of words is told of a command.
use Rattle.std.specs.Prelude.{true, List, ◌∷◌, map, Some, codes}
use Rattle.clap.specs.Walk.{Rule, Text}
use Rattle.clap.specs.Simple.{App, new_app, new_rule, on_top}
use Rattle.clap.specs.declared.builder.action.ArgAction.TheVariants.{Append}

-- names may stand anywhere
abbrev pub names_argument : Rule
names_argument = record (new_rule (codes "names")) { action = Some Append }

-- an option
abbrev pub option_argument : Text → Rule
option_argument option = record (new_rule option) { long = Some option; action = Some Append }

-- all words are arguments, and none asks for help: names, and these options
abbrev pub app : List Text → App
app options = on_top (λ shape. record shape {
  no_binary_name = true;
  disable_help_flag = true;
  rules = names_argument ∷ map option_argument options;
}) (new_app (codes "nanolog"))
