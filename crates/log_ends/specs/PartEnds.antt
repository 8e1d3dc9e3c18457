-- The consumer's ends of the rings, whose frames go into the parts of a log.
use Rattle.std.specs.Prelude.{◌≡◌, ℕ, ◌||◌, Bool, true, false, List, ◌∷◌, length, drop, if◌then◌else◌}
use Rattle.log_ends.specs.declared.part_end.PartEnd.{PartEnd}

-- no part was ended before
pub record IsFirstPart (end : PartEnd) : Type 0 where
  pub first : end.earlier ≡ 0
  pub open_part : end.held ≡ false

-- the frames that were taken since the part began
abbrev pub part_frames : PartEnd → List (List ℕ)
part_frames end = drop end.earlier end.out.got

-- no more frames go into the part: it is being ended, or the end has answered that all has ended
abbrev pub is_part_over : PartEnd → Bool
is_part_over end = end.held || end.out.ended

-- which part of which ring it is: its first frame, whether it is being ended, and the numbers of the ring
abbrev pub part_numbers : PartEnd → List ℕ
part_numbers end = end.earlier ∷ (if end.held then 1 else 0) ∷ end.out.pair

-- the part is being ended, and no more
abbrev pub EndsPart : PartEnd → PartEnd → Type 0
EndsPart before after = after ≡ record before { held = true }

-- a part begins behind the frames that were taken
pub record BeginsPart (before after : PartEnd) : Type 0 where
  pub same_out : after.out ≡ before.out
  pub behind : after.earlier ≡ length before.out.got
  pub open_part : after.held ≡ false
