use Rattle.std.proofs.Common.{◌≡◌, ◌+◌, ◌*◌, ◌≤◌, drop}
use Rattle.buffer_extent.specs.Reading.{words_taken}
use Rattle.buffer_extent.proofs.numbers.is_staged.Given as goal

abbrev pub invariant-loop-place : goal.invariant-loop-place
invariant-loop-place l = record { left : l.words + words_taken (drop l.place l.types) (drop l.place l.numbers) ≡ 2 + words_taken l.types l.numbers; few : l.words ≤ 2 + 501 * l.place }
