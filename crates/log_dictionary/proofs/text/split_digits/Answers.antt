use Rattle.std.proofs.Common.{sym}
use Rattle.log_dictionary.proofs.TextLemmas.{too_short}
use Rattle.log_dictionary.proofs.text.split_digits.Goals as goal

pub returns-in_default : goal.returns-in_default
returns-in_default c = sym (too_short c.args.bytes.now c.in_default.len_below)
