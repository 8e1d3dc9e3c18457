-- Where a reader stands in a file, and what its calls say of the bytes ahead.
use Rattle.std.specs.Prelude.{◌≡◌, ℕ, ◌+◌, ◌-◌, ◌^◌, ◌<◌, min, List, ◌++◌, length, option_map, IfSome, Result, Ok, Err, MatchResult, ⊤}
use Rattle.nibble_pack.specs.Bytes.{AreBytes}
use Rattle.nibble_pack.specs.Parsing.{Parse}
use Rattle.nl_io.specs.Content.{Told}
use Rattle.checkpoint_io.specs.declared.cause.Cause.{Cause}
use Rattle.checkpoint_io.specs.declared.cause.Cause.TheVariants as causes
use Rattle.checkpoint_io.specs.declared.fault.BlockFault.{BlockFault}
use Rattle.checkpoint_io.specs.declared.fault.BlockFault.TheVariants.{Damaged, ReadFault, NoMemory}

-- bytes that came from a source and weren't read yet, and the offset of the first of them
pub record UnreadBytes : Type 0 where
  pub bytes : List ℕ
  pub offset : ℕ

-- the bytes from a place in a file on, where they are told, and its offset
pub record LogPlace : Type 0 where
  pub ahead : Told
  pub offset : ℕ

-- the content with these bytes in front
abbrev pub with_front : List ℕ → Told → Told
with_front bytes told = option_map (λ content. bytes ++ content) told

-- behind the bytes that wait stand those that the source has left
abbrev pub log_place : UnreadBytes → Told → LogPlace
log_place waiting left = record { ahead = with_front waiting.bytes left; offset = waiting.offset }

-- the offset so many bytes further on; a count of 64 bits stops at its last value
abbrev pub further : ℕ → ℕ → ℕ
further offset count = min (offset + count) (2 ^ 64 - 1)

-- these bytes stand between the two places
pub record BytesBetween (front : List ℕ) (from to : LogPlace) : Type 0 where
  pub ahead : from.ahead ≡ with_front front to.ahead
  pub offset : to.offset ≡ further from.offset (length front)
  pub small : AreBytes front

-- what stands between the two places is read as this, whatever follows
pub record StandsBetween {A : Type 0} (read : List ℕ → Parse Cause A) (thing : A) (from to : LogPlace) : Type 0 where
  pub front : List ℕ
  pub passes : BytesBetween front from to
  pub found : (rest : List ℕ) → read (front ++ rest) ≡ Ok (thing, rest)

-- ---- faults

-- such bytes of these were taken, and behind them stand those that the source has left
abbrev pub TookSuch : (List ℕ → Type 0) → Told → Told → Type 0
TookSuch such told left = (bytes : List ℕ) × (told ≡ with_front bytes left) × such bytes

-- damage says this of its cause, and a failed read this; want of memory says nothing of the file
abbrev pub OfFault : (Cause → Type 0) → Type 0 → BlockFault → Type 0
OfFault damaged failed (Damaged cause) = damaged cause
OfFault damaged failed ReadFault = failed
OfFault damaged failed NoMemory = ⊤

-- the bytes ahead break so; where a read failed those of them that were taken end inside what is read there
abbrev pub Refuses : {A : Type 0} → (List ℕ → Parse Cause A) → LogPlace → Told → BlockFault → Type 0
Refuses read from left fault =
    OfFault (λ cause. IfSome from.ahead (λ bytes. read bytes ≡ Err cause))
    (TookSuch (λ bytes. read bytes ≡ Err causes.Cut) from.ahead left) fault

-- what a call that reads from one place to another answers is what the bytes give
abbrev pub ReadsAs : {A : Type 0} → (List ℕ → Parse Cause A) → LogPlace → LogPlace → Told → Result A BlockFault
    → Type 0
ReadsAs read from to left result = MatchResult result (λ thing. StandsBetween read thing from to) (Refuses read from left)

-- the fault is no damage
abbrev pub IsNoDamage : BlockFault → Type 0
IsNoDamage fault = OfFault (λ cause. ⊥) ⊤ fault

-- fewer bytes than this were taken of those ahead, and then a read failed
abbrev pub TookFewer : ℕ → LogPlace → Told → Type 0
TookFewer count from left = TookSuch (λ bytes. length bytes < count) from.ahead left
