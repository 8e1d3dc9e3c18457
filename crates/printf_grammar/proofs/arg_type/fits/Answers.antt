use Rattle.printf_grammar.proofs.lemmas.Fitting.{Fits-length_of_args}
use Rattle.printf_grammar.proofs.arg_type.fits.Goals as goal

pub returns-then-types-args : goal.returns-then-types-args
returns-then-types-args g c = (λ h. cc, λ fits. absurd (c.if-types-args.true (Fits-length_of_args g.A.Argument.value _ _ fits)))
