use Rattle.std.proofs.Common.{◌≡◌, ◌+◌, length, map, take, drop}
use Rattle.std.specs.Prelude.{All, sum_by}
use Rattle.std.specs.List.{flat_map}
use Rattle.arg_records.specs.Frames.{words_of_argument, argument_words, FrameLen}
use Rattle.arg_records.specs.Kinds.{HoldsBytes}
use Rattle.arg_records.specs.Places.{with_words}
use Rattle.arg_records.proofs.frame.put_arguments.Given as goal

abbrev pub invariant-loop-arg : goal.invariant-loop-arg
invariant-loop-arg g l = let value = g.A.Argument.value in record {
  long : length l.into ≡ 512;
  places : l.end + sum_by argument_words (map value (drop l.arg-index l.args)) ≡ FrameLen (map value l.args);
  left : with_words l.into l.end (flat_map words_of_argument (map value (drop l.arg-index l.args))) ≡ with_words l.fn.into 2 (flat_map words_of_argument (map value l.args));
  bytes : All (λ arg. HoldsBytes (value arg)) (take l.arg-index l.args);
}
