use Rattle.std.proofs.Common.{◌≡◌, ℕ, Result, Err, sym, arith}
use Rattle.printf_grammar.specs.declared.fault.FormatCause.{FormatCause}
use Rattle.printf_grammar.specs.declared.fault.ParseFault.{ParseFault}
use Rattle.printf_grammar.specs.declared.fault.ParseFault.TheVariants.{Bad}
use Rattle.printf_grammar.proofs.Reading.{read_more, read_broken}
use Rattle.printf_grammar.proofs.parsing.all_pieces.Goals as goal

pub loop-rest-preserved : goal.loop-rest-preserved
loop-rest-preserved c = rw (c.in_ok-push-in-Ok.ensures.items, c.in_ok-push_types-in-Ok.ensures) (read_more _ _ _ _ _ _ _ c.loop-rest.invariant (omega (arith, c.len.ensures)) c.in-Ok.ensures)

bad_parts : {T : Type 0} (a b : FormatCause) (p q : ℕ) → (let r : Result T ParseFault = Err (Bad a p) in r ≡ Err (Bad b q)) → (a ≡ b) × (p ≡ q)
bad_parts a b p q e = (cc, cc)

pub returns-in-Err-clause-bad : goal.returns-in-Err-clause-bad
returns-in-Err-clause-bad c = λ cause place e.
    let same = bad_parts _ _ _ _ e in
    rw (sym same.0, sym same.1) (read_broken _ _ _ _ _ _ _ c.requires.short c.loop-rest.invariant (omega (arith, c.len.ensures)) c.in-Err.ensures)
