use Rattle.printf_grammar.proofs.lemmas.Worked.{widest, too_wide, too_precise, most_args, too_many_args, longest, long, longest_text, long_text}
use Rattle.printf_grammar.proofs.laws.worked_limits.Goals as goal

pub returns-clause-widest : goal.returns-clause-widest
returns-clause-widest c = widest

pub returns-clause-too_wide : goal.returns-clause-too_wide
returns-clause-too_wide c = too_wide

pub returns-clause-too_precise : goal.returns-clause-too_precise
returns-clause-too_precise c = too_precise

pub returns-clause-most_args : goal.returns-clause-most_args
returns-clause-most_args c = most_args

pub returns-clause-too_many_args : goal.returns-clause-too_many_args
returns-clause-too_many_args c = too_many_args

pub returns-clause-longest : goal.returns-clause-longest
returns-clause-longest c = longest

pub returns-clause-long : goal.returns-clause-long
returns-clause-long c = long

pub returns-clause-longest_text : goal.returns-clause-longest_text
returns-clause-longest_text c = longest_text

pub returns-clause-long_text : goal.returns-clause-long_text
returns-clause-long_text c = long_text
