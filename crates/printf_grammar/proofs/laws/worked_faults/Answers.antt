use Rattle.printf_grammar.proofs.lemmas.Worked.{float, long_float, wide, store, bad_percent, bad_length, positional, ends, nul, percent_after_l, l_after_l, third_h, digit_after_star}
use Rattle.printf_grammar.proofs.laws.worked_faults.Goals as goal

pub returns-clause-float : goal.returns-clause-float
returns-clause-float c = float

pub returns-clause-long_float : goal.returns-clause-long_float
returns-clause-long_float c = long_float

pub returns-clause-wide : goal.returns-clause-wide
returns-clause-wide c = wide

pub returns-clause-store : goal.returns-clause-store
returns-clause-store c = store

pub returns-clause-bad_percent : goal.returns-clause-bad_percent
returns-clause-bad_percent c = bad_percent

pub returns-clause-bad_length : goal.returns-clause-bad_length
returns-clause-bad_length c = bad_length

pub returns-clause-positional : goal.returns-clause-positional
returns-clause-positional c = positional

pub returns-clause-ends : goal.returns-clause-ends
returns-clause-ends c = ends

pub returns-clause-nul : goal.returns-clause-nul
returns-clause-nul c = nul

pub returns-clause-percent_after_l : goal.returns-clause-percent_after_l
returns-clause-percent_after_l c = percent_after_l

pub returns-clause-l_after_l : goal.returns-clause-l_after_l
returns-clause-l_after_l c = l_after_l

pub returns-clause-third_h : goal.returns-clause-third_h
returns-clause-third_h c = third_h

pub returns-clause-digit_after_star : goal.returns-clause-digit_after_star
returns-clause-digit_after_star c = digit_after_star
