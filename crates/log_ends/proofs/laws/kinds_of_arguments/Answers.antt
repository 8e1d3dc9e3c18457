use Rattle.std.proofs.Common.{[], ◌∷◌, refl, subst, ◌∙◌, ne_eqb}
use Rattle.std.proofs.lemmas.Bool.{cond-false}
use Rattle.printf_grammar.specs.declared.arg_type.ArgType.{ArgType}
use Rattle.printf_grammar.specs.declared.arg_type.ArgType.TheVariants as types
use Rattle.printf_grammar.specs.declared.argument.Value.{Value}
use Rattle.printf_grammar.specs.declared.argument.Value.TheVariants.{Text}
use Rattle.printf_grammar.specs.Types.{FitsType}
use Rattle.log_ends.specs.declared.argument.TheConstants.{SIGNED, UNSIGNED, TEXT}
use Rattle.log_ends.proofs.laws.kinds_of_arguments.Goals as goal

-- no conversion takes a text with a NUL
nul_fits : (kind : ArgType) → FitsType (Text (0 ∷ [])) kind → ⊥
nul_fits types.Text fits = fits.no_nul.0 refl
nul_fits types.Int fits = fits
nul_fits types.UInt fits = fits
nul_fits types.Long fits = fits
nul_fits types.ULong fits = fits
nul_fits types.Width fits = fits
nul_fits types.Precision fits = fits

pub returns-clause-none : goal.returns-clause-none
returns-clause-none c = λ argument kind not_signed not_unsigned not_text fits.
    nul_fits kind (subst (λ (value : Value). FitsType value kind)
    (cond-false _ _ _ (ne_eqb argument.tag SIGNED not_signed) ∙ cond-false _ _ _ (ne_eqb argument.tag UNSIGNED not_unsigned) ∙ cond-false _ _ _ (ne_eqb argument.tag TEXT not_text)) fits)
