-- Commands that read two files, one or none are sound.
use Rattle.std.proofs.Common.{◌≡◌, ◌≢◌, ℕ, List, [], ◌∷◌, get_or, Option, Some, None, refl, sym, ap, subst, ◌∙◌, inl, inr, arith}
use Rattle.std.specs.Prelude.{◌⊎◌, Contains}
use Rattle.std.specs.FinMap as map
use Rattle.nl_io.specs.Count.{Rose}
use Rattle.nl_io.specs.Desk.{Desk, Held, OnlyReadFaults, IsAbsent}
use Rattle.command_base.specs.Endings.{Ending, IsDone, Done, StillOpen, Usage, Absent, ReadFault, Refused, RefusedSources, Damaged, WriteFault, NoMemory}
use Rattle.command_base.specs.HeldFiles.{IsThere}
use Rattle.command_base.proofs.lemmas.HeldLaws.{none_there, holds_there}
use Rattle.command_base.specs.Tasks.{Product, nothing, Course, WhileReading, UntilBegun, WhilePrinting, Streaming, Task}
use Rattle.command_base.specs.Effects.{IsPrinted}
use Rattle.command_base.specs.Readings.{Form, Begun, never, HasBegun, ReadsFile, HidesRead, file_task, IsFormed, pair_task, ArePaired, ReadsNone, free_task}
use Rattle.command_base.specs.Soundness.{FailsToRead, IsSound}

-- ---- names

-- the one name of a list
pub the_one : (input name : List ℕ) → Contains (input ∷ []) name → input ≡ name
the_one input name (k, within, is) =
    let first : k ≡ 0 = omega (arith, within) in
    sym (ap (λ (i : ℕ). get_or (input ∷ []) i name) first) ∙ is

pub has_first : (first : List ℕ) (others : List (List ℕ)) → Contains (first ∷ others) first
has_first first others = (0, omega arith, refl)

pub has_second : (first second : List ℕ) → Contains (first ∷ second ∷ []) second
has_second first second = (1, omega arith, refl)

first_is : (input : List ℕ) (more : List (List ℕ)) (name : List ℕ) (others : List (List ℕ)) → input ∷ more ≡ name ∷ others
    → input ≡ name
first_is input more name others is = cc

-- ---- what the reading of an input comes to

-- It changes nothing, or fails, which is told.
pub read_changes : (input : List ℕ) (form : Form) (begun : Begun) (old new : Desk) (product : Product) (ending : Ending)
    → ReadsFile input form begun old new product ending
    → (new ≡ old) ⊎ (OnlyReadFaults old new × HasBegun begun ending old product × (ending ≡ ReadFault input))
read_changes input form begun old new product Done reads = inl reads.0
read_changes input form begun old new product (StillOpen name numbers) reads = inl reads.0
read_changes input form begun old new product (Usage lines) reads = absurd reads
read_changes input form begun old new product (Absent name) reads = inl reads.0.1
read_changes input form begun old new product (ReadFault name) reads =
    inr (reads.0.1, reads.1, ap ReadFault reads.0.0)
read_changes input form begun old new product (Refused name line cause) reads = inl reads.0
read_changes input form begun old new product (RefusedSources lines) reads = inl reads.0
read_changes input form begun old new product (Damaged name offset cause) reads = inl reads.0
read_changes input form begun old new product (WriteFault name) reads = inl reads.same
read_changes input form begun old new product NoMemory reads = inl reads.0.0

-- Where the input isn't absent, and what it gives is done, the end is that.
pub read_done : (input : List ℕ) (form : Form) (begun : Begun) (old new : Desk) (product : Product) (ending : Ending)
    → ReadsFile input form begun old new product ending → ¬ (IsAbsent old input)
    → (form old product ending → IsDone ending) → ¬ (Rose old.read_faults new.read_faults)
    → ((name : List ℕ) → ending ≢ WriteFault name) → IsDone ending ⊎ (ending ≡ NoMemory)
read_done input form begun old new product Done reads there right r unbroken = inl refl
read_done input form begun old new product (StillOpen name numbers) reads there right r unbroken = inl refl
read_done input form begun old new product (Usage lines) reads there right r unbroken = absurd reads
read_done input form begun old new product (Absent name) reads there right r unbroken = absurd (there reads.0.2)
read_done input form begun old new product (ReadFault name) reads there right r unbroken = absurd (r reads.0.2)
read_done input form begun old new product (Refused name line cause) reads there right r unbroken = inl (right reads.2)
read_done input form begun old new product (RefusedSources lines) reads there right r unbroken = inl (right reads.2)
read_done input form begun old new product (Damaged name offset cause) reads there right r unbroken = inl (right reads.2)
read_done input form begun old new product (WriteFault name) reads there right r unbroken = absurd (unbroken name refl)
read_done input form begun old new product NoMemory reads there right r unbroken = inr refl

-- Where the input isn't there that is told.
pub read_absent : (input : List ℕ) (form : Form) (begun : Begun) (old new : Desk) (product : Product) (ending : Ending)
    → ReadsFile input form begun old new product ending → ¬ (IsThere old input)
    → ¬ (Rose old.read_faults new.read_faults) → (ending ≡ Absent input) × (product ≡ nothing)
read_absent input form begun old new product Done reads lacks r = absurd (lacks reads.1)
read_absent input form begun old new product (StillOpen said numbers) reads lacks r = absurd (lacks reads.1)
read_absent input form begun old new product (Usage lines) reads lacks r = absurd reads
read_absent input form begun old new product (Absent found) reads lacks r = (ap Absent reads.0.0, reads.1)
read_absent input form begun old new product (ReadFault found) reads lacks r = absurd (r reads.0.2)
read_absent input form begun old new product (Refused found line cause) reads lacks r = absurd (lacks reads.1)
read_absent input form begun old new product (RefusedSources lines) reads lacks r = absurd (lacks reads.1)
read_absent input form begun old new product (Damaged found offset cause) reads lacks r = absurd (lacks reads.1)
read_absent input form begun old new product (WriteFault found) reads lacks r = absurd (lacks reads.there)
read_absent input form begun old new product NoMemory reads lacks r = absurd (lacks reads.0.1)

-- ---- one input

-- the first of the inputs isn't there
lacks_input : (input : List ℕ) (more : List (List ℕ)) (name : List ℕ) (others : List (List ℕ)) (desk : Desk) (held : Held)
    → input ∷ more ≡ name ∷ others → desk.held ≡ Some held → map.get held name ≡ None → ¬ (IsThere desk input)
lacks_input input more name others desk held first told none there =
    none_there desk.held held input told (ap (map.get held) (first_is input more name others first) ∙ none) there

-- a command that streams, and stops at a failed read
stopped_read : (course : Course) (name : List ℕ) → IsPrinted (ReadFault name) course → HidesRead course NoMemory
stopped_read Streaming name is = tt
stopped_read WhileReading name is = absurd is
stopped_read UntilBegun name is = absurd is
stopped_read WhilePrinting name is = absurd is

changes : (input : List ℕ) (course : Course) (form : Form) (begun : Begun) (is_right : List ℕ → Type 0)
    (output : Option (List ℕ)) (leaves : Desk → List ℕ → Type 0) → IsFormed input course form begun is_right leaves
    → (old new : Desk) (product : Product) (ending : Ending) → ReadsFile input form begun old new product ending
    → (new ≡ old) ⊎ FailsToRead (file_task input course form begun is_right output leaves) old new product ending
changes input course form begun is_right output leaves formed old new product ending reads =
    elim (read_changes input form begun old new product ending reads) [
      | inl same ↦ inl same
      | inr fails ↦ inr (record {
        only = fails.0;
        unmade = elim fails.1 [ inl none ↦ ap (λ (p : Product). p.made) none | inr part ↦ part.0 ];
        told = inl (input, has_first input [], fails.2);
        cut_off = λ some other. elim fails.1 [
          | inl none ↦ absurd (some (ap (λ (p : Product). p.text) none))
          | inr part ↦
              let text = subst (λ (e : Ending). begun e old product.text) fails.2 part.1 in
              subst (λ (c : Course). HidesRead c (WriteFault other)) (sym (formed.streams old product.text text)) tt
        ];
        stopped = λ is. stopped_read course input (subst (λ (e : Ending). IsPrinted e course) fails.2 is);
      })
    ]

-- a command that reads one file is sound where it has its form
pub file_sound : (input : List ℕ) (course : Course) (form : Form) (begun : Begun) (is_right : List ℕ → Type 0)
    (output : Option (List ℕ)) (leaves : Desk → List ℕ → Type 0) → IsFormed input course form begun is_right leaves
    → IsSound (file_task input course form begun is_right output leaves)
file_sound input course form begun is_right output leaves formed = record {
  changes = λ old new product ending reads.
      changes input course form begun is_right output leaves formed old new product ending reads;
  writes_nothing = λ old new name reads. reads.some refl;
  has_words = λ old new product lines reads. reads;
  done = λ old new product ending reads right r unbroken.
      read_done input form begun old new product ending reads (holds_there old input is_right right)
      (formed.done old product ending right) r unbroken;
  absent = λ old new product ending name reads lacks r.
      let first = first_is input [] name lacks.others lacks.first in
      let told = read_absent input form begun old new product ending reads
      (lacks_input input [] name lacks.others old lacks.held lacks.first lacks.told lacks.none) r in
      (told.0 ∙ ap Absent first, told.1);
  there = λ old bytes name left lacks.
      lacks_input input [] name lacks.others old lacks.held lacks.first lacks.told lacks.none
      (formed.there old bytes left);
}

-- ---- two inputs

module _ {V : Type 0} (first second : List ℕ) (refuses : Form) (has : Desk → V → Type 0) (form : V → Form)
    (output : Option (List ℕ)) (right : Desk → Type 0) (formed : ArePaired first second refuses has form right) where
  abbrev pair : Task
  pair = pair_task first second refuses has form output right

  pair_fails : (input : List ℕ) → Contains (first ∷ second ∷ []) input → (old new : Desk) (product : Product) (ending : Ending)
      → OnlyReadFaults old new × HasBegun never ending old product × (ending ≡ ReadFault input)
      → FailsToRead pair old new product ending
  pair_fails input among old new product ending fails =
      let none : product ≡ nothing = elim fails.1 [ inl same ↦ same | inr part ↦ absurd part.1 ] in
      record {
        only = fails.0;
        unmade = ap (λ (p : Product). p.made) none;
        told = inl (input, among, fails.2);
        cut_off = λ some other. absurd (some (ap (λ (p : Product). p.text) none));
        stopped = λ is. subst (λ (e : Ending). IsPrinted e WhileReading) fails.2 is;
      }

  pair_changes : (old new : Desk) (product : Product) (ending : Ending) → pair.reads old new product ending
      → (new ≡ old) ⊎ FailsToRead pair old new product ending
  pair_changes old new product ending (inl reads) = elim (read_changes first refuses never old new product ending reads) [
    | inl same ↦ inl same
    | inr fails ↦ inr (pair_fails first (has_first first (second ∷ [])) old new product ending fails)
  ]
  pair_changes old new product ending (inr (value, found, reads)) =
      elim (read_changes second (form value) never old new product ending reads) [
        | inl same ↦ inl same
        | inr fails ↦ inr (pair_fails second (has_second first second) old new product ending fails)
      ]

  pair_done : (old new : Desk) (product : Product) (ending : Ending) → pair.reads old new product ending → right old
      → ¬ (Rose old.read_faults new.read_faults) → ((name : List ℕ) → ending ≢ WriteFault name)
      → IsDone ending ⊎ (ending ≡ NoMemory)
  pair_done old new product ending (inl reads) is r unbroken =
      read_done first refuses never old new product ending reads (formed.first_there old is)
      (λ refused. absurd (formed.accepted old product ending is refused)) r unbroken
  pair_done old new product ending (inr (value, found, reads)) is r unbroken =
      read_done second (form value) never old new product ending reads (formed.second_there old is)
      (formed.done old value product ending is found) r unbroken

  pair_absent : (old new : Desk) (product : Product) (ending : Ending) → pair.reads old new product ending
      → ¬ (IsThere old first) → ¬ (Rose old.read_faults new.read_faults) → (ending ≡ Absent first) × (product ≡ nothing)
  pair_absent old new product ending (inl reads) lacks r =
      read_absent first refuses never old new product ending reads lacks r
  pair_absent old new product ending (inr (value, found, reads)) lacks r = absurd (lacks (formed.there old value found))

  no_pair_writing : (old new : Desk) (name : List ℕ) → ¬ (pair.reads old new nothing (WriteFault name))
  no_pair_writing old new name (inl reads) = reads.text
  no_pair_writing old new name (inr (value, found, reads)) = reads.text

  no_pair_words : (old new : Desk) (product : Product) (lines : List ℕ) → ¬ (pair.reads old new product (Usage lines))
  no_pair_words old new product lines (inl reads) = reads
  no_pair_words old new product lines (inr (value, found, reads)) = reads

  -- a command that reads one file and then another is sound where it has its form
  pub pair_sound : IsSound pair
  pair_sound = record {
    changes = pair_changes;
    writes_nothing = no_pair_writing;
    has_words = no_pair_words;
    done = pair_done;
    absent = λ old new product ending name reads lacks r.
        let same = first_is first (second ∷ []) name lacks.others lacks.first in
        let told = pair_absent old new product ending reads
        (lacks_input first (second ∷ []) name lacks.others old lacks.held lacks.first lacks.told lacks.none) r in
        (told.0 ∙ ap Absent same, told.1);
    there = λ old bytes name left lacks.
        lacks_input first (second ∷ []) name lacks.others old lacks.held lacks.first lacks.told lacks.none
        (formed.there old left.0 left.1);
  }

-- ---- no input

free_same : (gives : Product → Type 0) (old new : Desk) (product : Product) (ending : Ending)
    → ReadsNone gives old new product ending → new ≡ old
free_same gives old new product Done reads = reads.0
free_same gives old new product NoMemory reads = reads.0
free_same gives old new product ending reads = absurd reads

free_done : (gives : Product → Type 0) (old new : Desk) (product : Product) (ending : Ending)
    → ReadsNone gives old new product ending → IsDone ending ⊎ (ending ≡ NoMemory)
free_done gives old new product Done reads = inl refl
free_done gives old new product NoMemory reads = inr refl
free_done gives old new product ending reads = absurd reads

no_first : (name : List ℕ) (others : List (List ℕ)) → [] ≢ name ∷ others
no_first name others is = cc

-- a command that reads no file is sound
pub free_sound : (course : Course) (gives : Product → Type 0) → IsSound (free_task course gives)
free_sound course gives = record {
  changes = λ old new product ending reads. inl (free_same gives old new product ending reads);
  writes_nothing = λ old new name reads. reads;
  has_words = λ old new product lines reads. reads;
  done = λ old new product ending reads right r unbroken. free_done gives old new product ending reads;
  absent = λ old new product ending name reads lacks r. absurd (no_first name lacks.others lacks.first);
  there = λ old bytes name left lacks. left;
}
