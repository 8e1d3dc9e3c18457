use Rattle.std.proofs.Common.{◌<◌, ◌^◌, ℕ, sym, ap, subst, ◌∙◌}
use Rattle.std.specs.Hash.{le_bytes}
use Rattle.byteorder.specs.Numbers.{little_from-lt}
use Rattle.checkpoint_io.proofs.StepLaws.{number_first}
use Rattle.checkpoint_io.proofs.steps.first_number.Goals as goal

pub returns-clause-fits : goal.returns-clause-fits
returns-clause-fits c = subst (λ (n : ℕ). n < 256 ^ c.args.size) (sym c.read_uint.ensures) (little_from-lt 0 c.args.size c.args.bytes.now (λ i. (c.type_inv.bytes i).fits))

pub returns-clause-first : goal.returns-clause-first
returns-clause-first c = number_first c.args.size c.args.bytes.now (λ i. (c.type_inv.bytes i).fits) c.requires.within ∙ ap (le_bytes c.args.size) (sym c.read_uint.ensures)
