use Rattle.std.proofs.Common.{◌≡◌, replicate}
use Rattle.decompressor.specs.Waiting.{no_queue}
use Rattle.decompressor.proofs.log_printer.without_records.Given as goal

abbrev pub invariant-loop : goal.invariant-loop
invariant-loop l = l.waiting.items ≡ replicate l.counter no_queue
