use Rattle.std.proofs.Common.{◌≡◌, ◌++◌, take}
use Rattle.std.specs.Prelude.{flat_map}
use Rattle.cli_words.specs.TableViews.{option_is}
use Rattle.cli_words.specs.Usage.{shown_option}
use Rattle.cli_words.proofs.usage_text.push_options.Given as goal

abbrev pub invariant-loop-option : goal.invariant-loop-option
invariant-loop-option l =
    l.text.items ≡ l.initial.text.items ++ flat_map (λ option. shown_option (option_is option)) (take l.option-index l.options)
