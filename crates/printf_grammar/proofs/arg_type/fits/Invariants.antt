use Rattle.std.proofs.Common.{◌↔◌, drop, map}
use Rattle.printf_grammar.specs.Types.{Fits}
use Rattle.printf_grammar.proofs.arg_type.fits.Given as goal

abbrev pub invariant-loop-place : goal.invariant-loop-place
invariant-loop-place g l =
    Fits (map g.A.Argument.value (drop l.place l.args)) (drop l.place l.types) ↔ Fits (map g.A.Argument.value l.args) l.types
