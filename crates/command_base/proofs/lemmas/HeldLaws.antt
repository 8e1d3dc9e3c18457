-- What follows from what the files of a command hold, and from a file that was opened, read and given up.
use Rattle.std.proofs.Common.{◌≡◌, ◌≢◌, ℕ, ◌<◌, ◌≤◌, Bool, true, false, not, T, ltb, ltb→lt, nltb→le, List, take, Option, Some, None, refl, sym, ap, subst, ◌∙◌, inl, inr}
use Rattle.std.specs.Prelude.{◌⊎◌, IfSome, is_some, option_map}
use Rattle.std.specs.FinMap as map
use Rattle.std.proofs.lemmas.Option.{same_Some}
use Rattle.nl_io.specs.Content.{Told, PutsFront}
use Rattle.nl_io.specs.Desk.{Desk, Held, OnlyReadFaults, IsAbsent, IsReading, Opens, Leaves, SameButLeft, Creates, Finishes, SameButHeld, put_by}
use Rattle.nl_io.proofs.lemmas.DeskLaws.{Opens-content, visited, written, written-holds}
use Rattle.command_base.specs.HeldFiles.{IsHeld, HoldsFront, IsThere, HoldsSuch, Holds}

-- ---- what a name holds

some_there : (held : Option Held) (name bytes : List ℕ) → IfSome held (λ h. map.get h name ≡ Some bytes)
    → IfSome held (λ h. map.get h name ≢ None)
some_there None name bytes is = tt
some_there (Some h) name bytes is = λ none. absurd cc

-- a name that holds bytes is there
pub held_there : (desk : Desk) (name bytes : List ℕ) → IsHeld desk name bytes → IsThere desk name
held_there desk name bytes is = some_there desk.held name bytes is

there_of : (held : Option Held) (name : List ℕ) (such : List ℕ → Type 0)
    → IfSome held (λ h. (bytes : List ℕ) × (map.get h name ≡ Some bytes) × such bytes)
    → IfSome held (λ h. map.get h name ≢ None)
there_of None name such found = tt
there_of (Some h) name such (bytes, is, so) = λ none. absurd cc

-- a name that holds such bytes is there
pub such_there : (desk : Desk) (name : List ℕ) (such : List ℕ → Type 0) → HoldsSuch desk name such → IsThere desk name
such_there desk name such holds = there_of desk.held name such holds

such_of : (held : Option Held) (name bytes : List ℕ) (such : List ℕ → Type 0) → IfSome held (λ h. map.get h name ≡ Some bytes)
    → such bytes → IfSome held (λ h. (found : List ℕ) × (map.get h name ≡ Some found) × such found)
such_of None name bytes such is so = tt
such_of (Some h) name bytes such is so = (bytes, is, so)

-- a name that holds bytes of which this is so holds such bytes
pub held_such : (desk : Desk) (name bytes : List ℕ) (such : List ℕ → Type 0) → IsHeld desk name bytes → such bytes
    → HoldsSuch desk name such
held_such desk name bytes such is so = such_of desk.held name bytes such is so

-- ---- where it is told what names hold

is_of : (told : Option Held) (held : Held) (name bytes : List ℕ) (such : List ℕ → Type 0) → told ≡ Some held
    → map.get held name ≡ Some bytes
    → IfSome told (λ names. (found : List ℕ) × (map.get names name ≡ Some found) × such found) → such bytes
is_of None held name bytes such is has other = absurd cc
is_of (Some names) held name bytes such is has (found, there, so) = let same : found ≡ bytes = cc in subst such same so

-- what is so of the bytes that a name holds is so of those that it is told to hold
pub such_is : (desk : Desk) (name : List ℕ) (form such : List ℕ → Type 0) → (holds : Holds desk name form)
    → HoldsSuch desk name such → such holds.bytes
such_is desk name form such holds so = is_of desk.held holds.held name holds.bytes such holds.told holds.there so

-- a name that is told not to be there isn't there
pub none_there : (told : Option Held) (held : Held) (name : List ℕ) → told ≡ Some held → map.get held name ≡ None
    → ¬ (IfSome told (λ names. map.get names name ≢ None))
none_there None held name is none there = absurd cc
none_there (Some names) held name is none there = there (ap (λ (h : Held). map.get h name) (same_Some names held is) ∙ none)

absent_of : (told : Option Held) (held : Held) (name bytes : List ℕ) → told ≡ Some held
    → map.get held name ≡ Some bytes → ¬ (IfSome told (λ names. map.get names name ≡ None))
absent_of None held name bytes is has none = absurd cc
absent_of (Some names) held name bytes is has none = absurd cc

-- a name that is told to hold bytes is there
pub holds_there : (desk : Desk) (name : List ℕ) (form : List ℕ → Type 0) → Holds desk name form → ¬ (IsAbsent desk name)
holds_there desk name form holds gone = absent_of desk.held holds.held name holds.bytes holds.told holds.there gone

-- ---- a file that was opened

content_such : (held : Option Held) (name : List ℕ) (content : Told) (such : List ℕ → Type 0)
    → IfSome held (λ h. (bytes : List ℕ) × (map.get h name ≡ Some bytes) × (content ≡ Some bytes))
    → IfSome content such → IfSome held (λ h. (bytes : List ℕ) × (map.get h name ≡ Some bytes) × such bytes)
content_such None name content such holds so = tt
content_such (Some h) name content such (bytes, is, told) so = (bytes, is, subst (λ (t : Told). IfSome t such) told so)

-- what is known of what an opened file has left is so of what its name holds
pub such_held : (old : Desk) (name : List ℕ) (id : ℕ) (new : Desk) (such : List ℕ → Type 0) → Opens old name id new
    → ((content : Told) → IsReading new id content → IfSome content such) → HoldsSuch old name such
such_held old name id new such opened so =
    content_such old.held name opened.content such opened.holds
    (so opened.content (Opens-content old name id new opened))

same_held : (held : Option Held) (name bytes : List ℕ)
    → IfSome held (λ h. (found : List ℕ) × (map.get h name ≡ Some found) × (bytes ≡ found))
    → IfSome held (λ h. map.get h name ≡ Some bytes)
same_held None name bytes h = tt
same_held (Some held) name bytes (found, is, same) = is ∙ ap Some (sym same)

-- all that an opened file has left is what its name holds
pub all_held : (old : Desk) (name : List ℕ) (id : ℕ) (new : Desk) (bytes : List ℕ) → Opens old name id new
    → ((content : Told) → IsReading new id content → IfSome content (λ left. bytes ≡ left)) → IsHeld old name bytes
all_held old name id new bytes opened all =
    same_held old.held name bytes (such_held old name id new (λ left. bytes ≡ left) opened all)

-- a name that was opened is there
pub opened_there : (old : Desk) (name : List ℕ) (id : ℕ) (new : Desk) → Opens old name id new → IsThere old name
opened_there old name id new opened =
    there_of old.held name (λ bytes. opened.content ≡ Some bytes) opened.holds

-- ---- a file that was read and given up

-- The name was opened and given up, and this is its content. All else of the files is as it was, but for the count of
-- read faults.
pub record WasRead (name : List ℕ) (old new : Desk) (content : Told) : Type 0 where
  pub holds : IfSome old.held (λ held. (bytes : List ℕ) × (map.get held name ≡ Some bytes) × (content ≡ Some bytes))
  pub only : OnlyReadFaults old new

pub was_read : (old : Desk) (name : List ℕ) (id : ℕ) (opened read new : Desk) → (opens : Opens old name id opened)
    → SameButLeft id opened read → opened.read_faults ≤ read.read_faults → Leaves read id new
    → WasRead name old new opens.content
was_read old name id opened read new opens same count leaves =
    record { holds = opens.holds; only = visited old name id opened read new opens same count leaves }

-- what is said of the content is said of what the name held
pub such_read : (name : List ℕ) (old new : Desk) (content : Told) (such : List ℕ → Type 0)
    → WasRead name old new content → IfSome content such → HoldsSuch old name such
such_read name old new content such was so = content_such old.held name content such was.holds so

pub there_read : (name : List ℕ) (old new : Desk) (content : Told) → WasRead name old new content → IsThere old name
there_read name old new content was = there_of old.held name (λ bytes. content ≡ Some bytes) was.holds

-- what is said of the counts while the file was open is said of those before and after
pub counts_by : (P : ℕ → ℕ → Type 0) (old : Desk) (name : List ℕ) (id : ℕ) (opened read new : Desk)
    → Opens old name id opened → Leaves read id new → P opened.read_faults read.read_faults
    → P old.read_faults new.read_faults
counts_by P old name id opened read new opens leaves so =
    subst (P old.read_faults) (sym (ap (λ (d : Desk). d.read_faults) leaves))
    (subst (λ (n : ℕ). P n read.read_faults) (ap (λ (d : Desk). d.read_faults) opens.opened) so)

-- where no read failed the files are as they were
pub same_desk : (old new : Desk) → OnlyReadFaults old new → new.read_faults ≡ old.read_faults → new ≡ old
same_desk old new only counted = only.same ∙ ap (λ (n : ℕ). record old { read_faults = n }) counted

below_or_not : (m n : ℕ) → (m < n) ⊎ (n ≤ m)
below_or_not m n = by_test (ltb m n) refl
  where
    by_test : (y : Bool) → ltb m n ≡ y → (m < n) ⊎ (n ≤ m)
    by_test true e = inl (ltb→lt m n (subst T (sym e) tt))
    by_test false e = inr (nltb→le m n (subst (λ (z : Bool). T (not z)) (sym e) tt))

-- ---- a file that was written

-- what was written to a name is what it holds
pub holds_written : (old new : Option Held) (name bytes : List ℕ) → is_some new ≡ is_some old
    → IfSome old (λ _. option_map (λ names. map.get names name) new ≡ Some (Some bytes))
    → IfSome new (λ held. map.get held name ≡ Some bytes)
holds_written old None name bytes told found = tt
holds_written None (Some after) name bytes told found = absurd cc
holds_written (Some before) (Some after) name bytes told found = same_Some (map.get after name) (Some bytes) found

-- a front of the bytes that were to be written to a name is what it holds
pub front_written : (old created put new : Desk) (name bytes : List ℕ) (id : ℕ) → Creates old name id created
    → SameButHeld id created put → created.write_faults ≤ put.write_faults
    → PutsFront bytes (put_by created id) (put_by put id) → Finishes put id new → HoldsFront new name bytes
front_written old created put new name bytes id creates same count (n, few, is) finishes = (
  n,
  few,
  holds_written old.held new.held name (take n bytes)
      (written old name id created put new creates same count finishes).told
      (written-holds old name (take n bytes) id created put new creates same is finishes),
)
