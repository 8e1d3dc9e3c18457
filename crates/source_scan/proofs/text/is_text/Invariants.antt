use Rattle.std.proofs.Common.{◌≡◌, ◌↔◌, drop}
use Rattle.source_scan.specs.Texts.{unspliced}
use Rattle.source_scan.proofs.Unsplicing.{from_front}
use Rattle.source_scan.proofs.text.is_text.Given as goal

abbrev pub invariant-loop-letter : goal.invariant-loop-letter
invariant-loop-letter l = (unspliced l.bytes ≡ l.text) ↔ (from_front l.rest ≡ drop l.letter-index l.text)
