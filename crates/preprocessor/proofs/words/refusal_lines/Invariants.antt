use Rattle.std.proofs.Common.{◌≡◌, take}
use Rattle.std.specs.List.{flat_map}
use Rattle.preprocessor.specs.Causes.{refusal_line}
use Rattle.preprocessor.proofs.words.refusal_lines.Given as goal

-- the lines on the refusals so far
abbrev pub invariant-loop-refusal : goal.invariant-loop-refusal
invariant-loop-refusal l = l.lines.items ≡ flat_map refusal_line (take l.refusal-index l.refusals)
