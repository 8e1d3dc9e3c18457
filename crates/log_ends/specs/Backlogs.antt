-- What is held back for a caller.
use Rattle.std.specs.Prelude.{◌≡◌, ℕ, List, ◌++◌, length, min, take, drop, vec_len}
use Rattle.log_ends.specs.declared.backlog.Backlog.{Backlog}

-- the bytes that weren't given
abbrev pub held_back : Backlog → List ℕ
held_back backlog = drop backlog.given (take backlog.end backlog.room.items)

-- how many bytes it has room for, with those that were given since it was cleared
abbrev pub room_len : Backlog → ℕ
room_len backlog = vec_len backlog.room

-- it has the same room, of which as much was given
pub record IsSameRoom (old new : Backlog) : Type 0 where
  pub room : room_len new ≡ room_len old
  pub given : new.given ≡ old.given

-- As many of the bytes as fit went to the front of where the caller wants them, and no longer are held back.
pub record GivesBacklog (old : Backlog) (into : List ℕ) (count : ℕ) (new : Backlog) (into_after : List ℕ) : Type 0 where
  pub count_is : count ≡ min (length (held_back old)) (length into)
  pub put : into_after ≡ take count (held_back old) ++ drop count into
  pub left : held_back new ≡ drop count (held_back old)
  pub same : room_len new ≡ room_len old
  pub unrefused : old.refused ≡ 0 → new.refused ≡ 0
