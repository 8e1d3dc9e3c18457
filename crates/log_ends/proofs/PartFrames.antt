-- The frames of a part of a ring.
use Rattle.std.proofs.Common.{ℕ, zero, suc, ◌≤◌, List, [], ◌∷◌, drop, ap, ◌∙◌, arith}
use Rattle.std.proofs.lemmas.List.{drop-map}
use Rattle.std.proofs.lemmas.List.Elements.{All-drop}
use Rattle.arg_records.specs.declared.call.Call.{Call}
use Rattle.arg_records.specs.Calls.{NeverFalls}
use Rattle.ring_core.specs.Plans.{Plan, IsPlanned, frame_of, Lawful}
use Rattle.ring_core.specs.declared.answers.Taken.{Taken}
use Rattle.ring_core.specs.declared.answers.Taken.TheVariants as answers
use Rattle.ring_core.specs.Answers.{IfFrame}

falls_less : (low high : ℕ) (calls : List Call) → low ≤ high → NeverFalls high calls → NeverFalls low calls
falls_less low high [] below never = tt
falls_less low high (call ∷ calls) below never = (omega (arith, below, never.0), never.1)

never_falls_behind : (count least : ℕ) (calls : List Call) → NeverFalls least calls → NeverFalls least (drop count calls)
never_falls_behind zero least calls never = never
never_falls_behind (suc count) least [] never = tt
never_falls_behind (suc count) least (call ∷ calls) never = falls_less least call.stamp (drop count calls) never.0 (never_falls_behind count call.stamp calls never.1)

-- frames that are lawful together are so without the first ones
pub lawful_behind : (plan : Plan) (count : ℕ) (frames : List (List ℕ)) → Lawful plan frames → Lawful plan (drop count frames)
lawful_behind plan count frames (calls, are) = (
  drop count calls,
  record {
    frames_are = ap (drop count) are.frames_are ∙ drop-map frame_of count calls;
    planned = All-drop (IsPlanned plan.types) count calls are.planned;
    rising = never_falls_behind count plan.first calls are.rising;
  },
)

-- so are those of a part, where one more was taken
pub part_lawful : (answer : Taken) (plan : Plan) (count : ℕ) (frames : List (List ℕ)) → IfFrame answer (λ n. Lawful plan frames) → IfFrame answer (λ n. Lawful plan (drop count frames))
part_lawful (answers.Frame n) plan count frames lawful = lawful_behind plan count frames lawful
part_lawful answers.Nothing plan count frames lawful = tt
part_lawful answers.Ended plan count frames lawful = tt
