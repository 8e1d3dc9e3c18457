use Rattle.std.proofs.Common.{◌≡◌, List, Some, slice_get, map, sym, subst, ◌∙◌}
use Rattle.printf_grammar.specs.declared.arg_type.ArgType.{ArgType}
use Rattle.printf_grammar.specs.Types.{Types, Fits}
use Rattle.log_dictionary.proofs.dictionary.Dictionary.takes.Goals as goal

pub returns-in-Some : goal.returns-in-Some
returns-in-Some g c =
    let there : slice_get c.args.self.now c.args.id ≡ Some c.in-Some.message.now = sym c.in-Some.ensures.value in
    let given = map g.A.Argument.value c.args.args.now in (
      λ yes. (c.in-Some.message.now, there, subst (λ (types : List ArgType). Fits given types) c.types.ensures.types (c.fits.ensures.0 yes)),
      λ taken.
          let same : taken.0 ≡ c.in-Some.message.now = let e = sym taken.1 ∙ there in cc in
          let types : Types taken.0.format.pieces ≡ c.types.result.now = let e = c.types.ensures.types in cc in
          c.fits.ensures.1 (subst (λ (types : List ArgType). Fits given types) types taken.2),
    )
