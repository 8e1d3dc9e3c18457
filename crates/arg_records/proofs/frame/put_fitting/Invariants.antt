use Rattle.std.proofs.Common.{◌≡◌, ◌+◌, ◌*◌, ◌≤◌, ◌↔◌, length, map, take, drop}
use Rattle.std.specs.Prelude.{All, sum_by}
use Rattle.std.specs.List.{flat_map}
use Rattle.printf_grammar.specs.Types.{Fits}
use Rattle.arg_records.specs.Frames.{words_of_argument, argument_words, FrameLen}
use Rattle.arg_records.specs.Kinds.{HoldsBytes}
use Rattle.arg_records.specs.Places.{with_words}
use Rattle.arg_records.proofs.frame.put_fitting.Given as goal

abbrev pub invariant-loop-place : goal.invariant-loop-place
invariant-loop-place g l = let value = g.A.Argument.value in record {
  long : length l.into ≡ 512;
  few : l.end ≤ 2 + 501 * l.place;
  fits : Fits (map value (drop l.place l.args)) (drop l.place l.types) ↔ Fits (map value l.args) l.types;
  places : l.end + sum_by argument_words (map value (drop l.place l.args)) ≡ FrameLen (map value l.args);
  left : l.end ≤ 512 → with_words l.into l.end (flat_map words_of_argument (map value (drop l.place l.args))) ≡ with_words l.fn.into 2 (flat_map words_of_argument (map value l.args));
  bytes : l.end ≤ 512 → All (λ arg. HoldsBytes (value arg)) (take l.place l.args);
}
