-- The worked entry is proved from its parts.
use Rattle.std.proofs.Common.{lit<, lit≤, [], refl}
use Rattle.std.specs.Prelude.{codes}
use Rattle.std.specs.Hash.{le_bytes}
use Rattle.printf_grammar.specs.Spelling.{Spells}
use Rattle.printf_grammar.proofs.lemmas.NarrowLaws.{plain_d_spelled}
use Rattle.log_dictionary.specs.BinaryEntries.{SpellsEntry}
use Rattle.log_dictionary.specs.Rows.{row_message, row_entry}

-- the worked message's format is spelled by its pieces
pub formed : Spells (codes "x=%d") row_message.format.pieces
formed = record {
  short = lit≤ tt;
  few = lit≤ tt;
  apart = (tt, tt);
  spelled = (codes "x=", codes "%d", refl, record { start_is = refl; end_is = refl; nonempty = lit< tt; literal = ((λ h. cc, λ h. cc), ((λ h. cc, λ h. cc), tt)) }, (codes "%d", [], refl, plain_d_spelled, refl));
}

spelled : SpellsEntry row_entry row_message
unfolding le_bytes
spelled = record { spelled = refl; line_fits = lit< tt; formed = formed }

pub whole : SpellsEntry row_entry row_message
whole = spelled
