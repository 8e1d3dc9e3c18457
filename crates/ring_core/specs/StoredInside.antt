-- How an end over stored frames keeps them.
use Rattle.std.specs.Prelude.{◌≡◌, ℕ, ◌≤◌, true, List, Option, None, Some, map, take, drop, length}
use Rattle.arg_records.specs.declared.call.Call.{Call}
use Rattle.arg_records.specs.Calls.{last_stamp}
use Rattle.ring_core.specs.declared.stored_out.StoredAnswer.{StoredAnswer}
use Rattle.ring_core.specs.declared.stored_out.StoredAnswer.TheVariants as answers
use Rattle.ring_core.specs.declared.stored_out.StoredOut.TheInside.{Inside}
use Rattle.ring_core.specs.Plans.{plan_of, AreFramesOf}
use Rattle.ring_core.specs.Stored.{StoredEnd, stored_frames}

-- the words of a frame, if the answer is one
abbrev pub answer_words : StoredAnswer → Option (List ℕ)
answer_words (answers.Frame words) = Some words.items
answer_words answers.Pause = None

-- what contracts see
abbrev pub end_of : Inside → StoredEnd
end_of s = record {
  plan = plan_of s.dictionary.now s.first;
  last = s.last;
  got = stored_frames (map answer_words (take s.next s.answers.items));
  ahead = map answer_words (drop s.next s.answers.items);
  closed = s.closed;
  ended = s.ended;
  loads = s.loads;
}

-- All stored frames are lawful, `last` is the stamp of the last one's call, and an end has ended only where it is closed and
-- all was answered.
pub record IsStored (s : Inside) : Type 0 where
  pub calls : List Call
  pub lawful : AreFramesOf (plan_of s.dictionary.now s.first) (stored_frames (map answer_words s.answers.items)) calls
  pub last_is : last_stamp s.first calls ≡ s.last
  pub within : s.next ≤ length s.answers.items
  pub closed_end : s.ended ≡ true → s.closed ≡ true
  pub whole_end : s.ended ≡ true → s.next ≡ length s.answers.items
