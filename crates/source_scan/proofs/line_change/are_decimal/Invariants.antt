use Rattle.std.proofs.Common.{◌≡◌, take, true}
use Rattle.std.specs.List.{list_all}
use Rattle.source_scan.specs.LineNumbers.{is_decimal}
use Rattle.source_scan.proofs.line_change.are_decimal.Given as goal

abbrev pub invariant-loop-byte : goal.invariant-loop-byte
invariant-loop-byte l = list_all is_decimal (take l.byte-index l.text) ≡ true
