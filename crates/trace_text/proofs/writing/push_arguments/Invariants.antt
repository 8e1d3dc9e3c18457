use Rattle.std.proofs.Common.{◌≡◌, ◌++◌, take}
use Rattle.std.specs.List.{flat_map}
use Rattle.trace_text.specs.Canonical.{argument_text}
use Rattle.trace_text.proofs.writing.push_arguments.Given as goal

-- the arguments so far are appended
abbrev pub invariant-loop-arg : goal.invariant-loop-arg
invariant-loop-arg l = l.text.items ≡ l.fn.text.items ++ flat_map argument_text (take l.arg-index l.args)
