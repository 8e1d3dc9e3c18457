use Rattle.std.proofs.Common.{refl, ap, Err}
use Rattle.std.proofs.lemmas.Result.{err_from_is_err_and}
use Rattle.printf_grammar.specs.declared.fault.ParseFault.{ParseFault}
use Rattle.printf_grammar.proofs.lemmas.Unique.{spells_once, never_both, fault_of_spelled, fault_of_break}
use Rattle.printf_grammar.proofs.format.parse.Goals as goal

pub returns-in_err-pieces-clause-only_found : goal.returns-in_err-pieces-clause-only_found
returns-in_err-pieces-clause-only_found c = λ pieces spells.
    let p = err_from_is_err_and c.from_residual.result c.from_residual.ensures.1 in
    rw (p.1, p.2) (fault_of_spelled _ pieces _ (λ cause place e. c.in_err-pieces.ensures.bad cause place (ap (λ (fault : ParseFault). Err fault) e)) spells)

pub returns-in_err-pieces-clause-only_bad : goal.returns-in_err-pieces-clause-only_bad
returns-in_err-pieces-clause-only_bad c = λ cause place breaks.
    let p = err_from_is_err_and c.from_residual.result c.from_residual.ensures.1 in
    rw (p.1, p.2) (fault_of_break _ cause place _ (λ found at e. c.in_err-pieces.ensures.bad found at (ap (λ (fault : ParseFault). Err fault) e)) breaks)

pub returns-clause-only_found : goal.returns-clause-only_found
returns-clause-only_found c = λ pieces spells.
    let same = spells_once _ c.in_ok-pieces.pieces.items pieces c.in_ok-pieces.ensures.found.0 spells in
    rw (c.in_ok-from_slice.ensures, same) refl

pub returns-clause-only_bad : goal.returns-clause-only_bad
returns-clause-only_bad c = λ cause place breaks. never_both _ c.in_ok-pieces.pieces.items cause place c.in_ok-pieces.ensures.found.0 breaks
