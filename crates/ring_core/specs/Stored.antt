-- An end over frames that were stored beforehand, as contracts see it.
use Rattle.std.specs.Prelude.{ℕ, Bool, true, false, List, [], ◌∷◌, ◌++◌, Option, None, Some, length, if◌then◌else◌}
use Rattle.std.specs.List.{filter_map}
use Rattle.nl_io.specs.Count.{counted}
use Rattle.log_dictionary.specs.declared.message.Message.{Message}
use Rattle.ring_core.specs.declared.answers.Taken.{Taken}
use Rattle.ring_core.specs.declared.answers.Taken.TheVariants as answers
use Rattle.ring_core.specs.Plans.{Plan, plan_of}

-- The frames that were taken, and what is going to be answered: a frame, or nothing at this place. `last` is the stamp of
-- the last call.
pub record StoredEnd : Type 0 where
  pub plan : Plan
  pub last : ℕ
  pub got : List (List ℕ)
  pub ahead : List (Option (List ℕ))
  pub closed : Bool
  pub ended : Bool
  pub loads : ℕ

-- an end over no frames
abbrev pub empty_end : List Message → ℕ → StoredEnd
empty_end messages first = record {
  plan = plan_of messages first;
  last = first;
  got = [];
  ahead = [];
  closed = false;
  ended = false;
  loads = 0;
}

-- the frames among what is stored
abbrev pub stored_frames : List (Option (List ℕ)) → List (List ℕ)
stored_frames stored = filter_map (λ words. words) stored

-- what the end answers next: where it has no more, that all has ended, or nothing if it isn't closed
abbrev pub answer_in : List (Option (List ℕ)) → Bool → Taken
answer_in [] closed = if closed then answers.Ended else answers.Nothing
answer_in (Some words ∷ ahead) closed = answers.Frame (length words)
answer_in (None ∷ ahead) closed = answers.Nothing

-- the end after this answer
abbrev pub end_after : List (Option (List ℕ)) → StoredEnd → StoredEnd
end_after [] end = if end.closed then record end { ended = true } else record end { loads = counted end.loads }
end_after (Some words ∷ ahead) end = record end { got = end.got ++ words ∷ []; ahead = ahead }
end_after (None ∷ ahead) end = record end { ahead = ahead; loads = counted end.loads }
