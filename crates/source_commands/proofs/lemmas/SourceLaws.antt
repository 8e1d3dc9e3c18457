-- Commands over sources are sound.
use Rattle.std.proofs.Common.{◌≡◌, ◌≢◌, ℕ, ◌≤◌, List, [], ◌∷◌, ◌++◌, length, map, Option, Some, None, refl, sym, ap, subst, ◌∙◌, append-nil, length-append, inl, inr, arith}
use Rattle.std.specs.Prelude.{◌⊎◌, Contains, ⊤}
use Rattle.std.specs.FinMap as map
use Rattle.std.specs.List.{AllByRecursion}
use Rattle.std.proofs.Math.Seq.{get_or-append_seam}
use Rattle.std.proofs.lemmas.Grind.{flat_map-append}
use Rattle.std.proofs.lemmas.Option.{MatchOption-at_some, none-some, same_Some}
use Rattle.nl_io.specs.Count.{Rose}
use Rattle.nl_io.specs.Desk.{Desk, Held, OnlyReadFaults, IsAbsent}
use Rattle.log_dictionary.specs.declared.message.Message.{Message}
use Rattle.log_dictionary.specs.declared.dictionary.TheConstants.{MAX_MESSAGES}
use Rattle.preprocessor.specs.declared.refusal.SourceRefusal.{SourceRefusal}
use Rattle.preprocessor.specs.Findings.{SourceFile, Finding}
use Rattle.preprocessor.specs.Numbering.{finding_messages, stated_messages, finding_refusals, refusals_of, firsts, numbered, excess_refusal, Refusals}
use Rattle.preprocessor.proofs.lemmas.Behind.{grown_behind}
use Rattle.preprocessor.proofs.lemmas.Once.{refusals_once, have_front}
use Rattle.preprocessor.proofs.lemmas.Told.{not_empty}
use Rattle.command_base.specs.Endings.{Ending, Done, StillOpen, Usage, Absent, ReadFault, Refused, RefusedSources, Damaged, WriteFault, NoMemory, status_of}
use Rattle.command_base.specs.HeldFiles.{IsHeld}
use Rattle.command_base.specs.Tasks.{Product, nothing, WhileReading}
use Rattle.command_base.specs.Effects.{IsPrinted}
use Rattle.command_base.specs.Soundness.{FailsToRead, IsSound}
use Rattle.source_commands.specs.Sources.{source_name, AreRead, EndsReading, AreTaken, AreRight, AreRefused, IsReached, GiveNothing, ReadsSources, source_task}
use Rattle.source_commands.specs.Sources.EndsReading.{all_read, too_many, absent, failed}

-- ---- what names hold

-- the sources hold what their names hold
abbrev pub AreHeld : Desk → List SourceFile → Type 0
AreHeld desk sources = AllByRecursion (λ (source : SourceFile). IsHeld desk source.name source.bytes) sources

same_source : (a b : SourceFile) → a.name ≡ b.name → a.bytes ≡ b.bytes → a ≡ b
same_source a b name bytes = λ i. record { name = name i; bytes = bytes i }

one_held : (held : Held) (a b : SourceFile) → a.name ≡ b.name → map.get held a.name ≡ Some a.bytes → map.get held b.name ≡ Some b.bytes → a ≡ b
one_held held a b name first second =
    same_source a b name (same_Some a.bytes b.bytes (sym first ∙ ap (map.get held) name ∙ second))

-- sources that stand at the front of others by their names are these
sources_begin : (desk : Desk) (held : Held) → desk.held ≡ Some held → (front all : List SourceFile) (unread : List (List ℕ)) → map source_name front ++ unread ≡ map source_name all → AreHeld desk front → AreHeld desk all
    → (rest : List SourceFile) × (all ≡ front ++ rest) × (unread ≡ map source_name rest)
sources_begin desk held told [] all unread named first holds = (all, refl, named)
sources_begin desk held told (source ∷ front) [] unread named first holds = absurd cc
sources_begin desk held told (source ∷ front) (other ∷ all) unread named first holds =
    let name : source_name source ≡ source_name other = cc in
    let later : map source_name front ++ unread ≡ map source_name all = cc in
    let rest = sources_begin desk held told front all unread later first.1 holds.1 in
    let same = one_held held source other name (MatchOption-at_some ⊤ (λ (names : Held). map.get names source.name ≡ Some source.bytes) held told first.0) (MatchOption-at_some ⊤ (λ (names : Held). map.get names other.name ≡ Some other.bytes) held told holds.0) in
    (rest.0, ap (λ (s : SourceFile). s ∷ all) (sym same) ∙ ap (λ (l : List SourceFile). source ∷ l) rest.1, rest.2)

-- a name behind the front of sources holds something
behind_held : (desk : Desk) (front rest : List SourceFile) (name : List ℕ) (others : List (List ℕ)) → name ∷ others ≡ map source_name rest → AreHeld desk (front ++ rest)
    → (bytes : List ℕ) × IsHeld desk name bytes
behind_held desk [] [] name others named holds = absurd cc
behind_held desk [] (source ∷ rest) name others named holds =
    let same : source_name source ≡ name = cc in
    (source.bytes, subst (λ (n : List ℕ). IsHeld desk n source.bytes) same holds.0)
behind_held desk (source ∷ front) rest name others named holds = behind_held desk front rest name others named holds.1

-- ---- what is refused

first_nil : (list more : List SourceRefusal) → [] ≡ list ++ more → list ≡ []
first_nil [] more e = refl
first_nil (first ∷ list) more e = absurd cc

fewer : (first others findings : List Finding) → findings ≡ first ++ others → length (numbered findings) ≤ MAX_MESSAGES → length (numbered first) ≤ MAX_MESSAGES
fewer first others findings joined few =
    let grown = grown_behind (stated_messages first) (stated_messages others) in
    let same : length (numbered findings) ≡ length (firsts (stated_messages first ++ stated_messages others)) =
    ap (λ (l : List Finding). length (numbered l)) joined ∙ ap (λ (l : List Message). length (firsts l)) (flat_map-append finding_messages first others) in
    omega (arith, grown, same, few)

-- where nothing of sources is refused, nothing of the first ones is
front_right : (front rest : List SourceFile) (refusals : List SourceRefusal) → Refusals (front ++ rest) [] → Refusals front refusals → refusals ≡ []
front_right front rest refusals (Refusals.all_read findings have few is) told =
    let parts = have_front front rest findings have in
    refusals_once front refusals (refusals_of parts.0) told (Refusals.all_read parts.0 parts.3 (fewer parts.0 parts.1 findings parts.2 few) refl)
    ∙ first_nil (refusals_of parts.0) (refusals_of parts.1) (is ∙ ap refusals_of parts.2 ∙ flat_map-append finding_refusals parts.0 parts.1)
front_right front rest refusals (Refusals.stopped read unread findings joined have before message stops is) told = absurd (not_empty (refusals_of before) (excess_refusal message) (sym is))

none_refused : (refusals : List SourceRefusal) → Refusals [] refusals → refusals ≡ []
unfolding firsts
none_refused refusals told = refusals_once [] refusals [] told (Refusals.all_read [] refl (omega arith) refl)

-- ---- which files are read

ends_reading : (old new : Desk) (sources : List SourceFile) (unread : List (List ℕ)) → EndsReading old new sources unread → (new ≡ old) ⊎ OnlyReadFaults old new
ends_reading old new sources unread (all_read none same) = inl same
ends_reading old new sources unread (too_many excess same) = inl same
ends_reading old new sources unread (absent name others is few gone same) = inl same
ends_reading old new sources unread (failed name others is few only rose) = inr only

seen_name : (names front : List (List ℕ)) (name : List ℕ) (others : List (List ℕ)) → names ≡ front ++ name ∷ others → Contains names name
seen_name names front name others is =
    subst (λ (l : List (List ℕ)). Contains l name) (sym is)
    (length front, let longer = length-append front (name ∷ others) in omega (arith, longer), get_or-append_seam front name others name)

-- a read failed, and nothing came of the sources
fails : (names : List (List ℕ)) (output : Option (List ℕ)) (gives : List SourceFile → Product → Type 0) (old new : Desk) (product : Product) (ending : Ending) → OnlyReadFaults old new → product ≡ nothing
    → ((name : List ℕ) × Contains names name × (ending ≡ ReadFault name)) ⊎ ((lines : List ℕ) × AreRefused names old new lines) → (IsPrinted ending WhileReading → (lines : List ℕ) × AreRefused names old new lines)
    → FailsToRead (source_task names output gives) old new product ending
fails names output gives old new product ending only none told stopped = record {
  only = only;
  unmade = ap (λ (p : Product). p.made) none;
  told = told;
  cut_off = λ some name. absurd (some (ap (λ (p : Product). p.text) none));
  stopped = stopped;
}

-- what is refused is told in its place
refused_changes : (names : List (List ℕ)) (output : Option (List ℕ)) (gives : List SourceFile → Product → Type 0) (old new : Desk) (product : Product) (lines : List ℕ) (ending : Ending) → product ≡ nothing
    → AreRefused names old new lines → (new ≡ old) ⊎ FailsToRead (source_task names output gives) old new product ending
refused_changes names output gives old new product lines ending none refused = elim (ends_reading old new refused.sources refused.unread refused.ends) [
  | inl same ↦ inl same
  | inr only ↦ inr (fails names output gives old new product ending only none (inr (lines, refused)) (λ is. (lines, refused)))
]

-- sources that give nothing change nothing, or a read failed
nothing_changes : (names : List (List ℕ)) (output : Option (List ℕ)) (gives : List SourceFile → Product → Type 0) (old new : Desk) (product : Product) (ending : Ending) → product ≡ nothing
    → GiveNothing names old new ending → (new ≡ old) ⊎ FailsToRead (source_task names output gives) old new product ending
nothing_changes names output gives old new product (Absent name) none gave = inl gave.2
nothing_changes names output gives old new product (ReadFault name) none gave =
    inr (fails names output gives old new product (ReadFault name) gave.1 none (inl (name, seen_name names (map source_name gave.0.sources) name gave.0.others gave.0.read.named, refl)) (λ is. absurd is))
nothing_changes names output gives old new product (RefusedSources lines) none gave = refused_changes names output gives old new product lines (RefusedSources lines) none gave
nothing_changes names output gives old new product NoMemory none gave = elim gave [ inl lack ↦ inl lack.same | inr refused ↦ refused_changes names output gives old new product refused.0 NoMemory none refused.1 ]
nothing_changes names output gives old new product ending none gave = absurd gave

-- ---- what comes where no call fails

-- nothing is refused of the first of right sources
right_refused : (names : List (List ℕ)) (old new : Desk) (lines : List ℕ) → AreRight old names → AreRefused names old new lines → ⊥
right_refused names old new lines right refused =
    let begun = sources_begin old right.held right.told refused.sources right.taken.sources refused.unread (sym refused.read.named ∙ right.taken.read.named ∙ append-nil (map source_name right.taken.sources)) refused.read.held right.taken.read.held in
    refused.some (front_right refused.sources begun.0 refused.refusals (subst (λ (l : List SourceFile). Refusals l []) begun.1 right.taken.right) refused.refused)

-- each of right sources is there
right_there : (names : List (List ℕ)) (old : Desk) (name : List ℕ) → AreRight old names → IsReached old names name → IsAbsent old name → ⊥
right_there names old name right reached gone =
    let begun = sources_begin old right.held right.told reached.sources right.taken.sources (name ∷ reached.others) (sym reached.read.named ∙ right.taken.read.named ∙ append-nil (map source_name right.taken.sources)) reached.read.held right.taken.read.held in
    let found = behind_held old reached.sources begun.0 name reached.others begun.2 (subst (AreHeld old) begun.1 right.taken.read.held) in
    none-some found.0 (sym (MatchOption-at_some ⊤ (λ (names : Held). map.get names name ≡ None) right.held right.told gone) ∙ MatchOption-at_some ⊤ (λ (names : Held). map.get names name ≡ Some found.0) right.held right.told found.1)

right_taken : (names : List (List ℕ)) (old new : Desk) (ending : Ending) → GiveNothing names old new ending → AreRight old names → ¬ (Rose old.read_faults new.read_faults) → ending ≡ NoMemory
right_taken names old new (Absent name) gave right r = absurd (right_there names old name right gave.0 gave.1)
right_taken names old new (ReadFault name) gave right r = absurd (r gave.2)
right_taken names old new (RefusedSources lines) gave right r = absurd (right_refused names old new lines right gave)
right_taken names old new NoMemory gave right r = refl
right_taken names old new ending gave right r = absurd gave

-- ---- a first name that isn't there

-- nothing is read where the first name isn't there
none_read : (desk : Desk) (names : List (List ℕ)) (sources : List SourceFile) (unread : List (List ℕ)) (name : List ℕ) (others : List (List ℕ)) (held : Held) → AreRead desk names sources unread
    → names ≡ name ∷ others → desk.held ≡ Some held → map.get held name ≡ None → (sources ≡ []) × (unread ≡ name ∷ others)
none_read desk names [] unread name others held read is told none = (refl, sym read.named ∙ is)
none_read desk names (source ∷ sources) unread name others held read is told none =
    let begins : source.name ∷ (map source_name sources ++ unread) ≡ name ∷ others = sym read.named ∙ is in
    let same : source.name ≡ name = cc in
    absurd (none-some source.bytes (sym none ∙ subst (λ (n : List ℕ). map.get held n ≡ Some source.bytes) same (MatchOption-at_some ⊤ (λ (names : Held). map.get names source.name ≡ Some source.bytes) held told read.held.0)))

none_told : (names : List (List ℕ)) (old new : Desk) (lines name : List ℕ) (others : List (List ℕ)) (held : Held) → AreRefused names old new lines → names ≡ name ∷ others → old.held ≡ Some held → map.get held name ≡ None → ⊥
none_told names old new lines name others held refused is told none =
    let unread = none_read old names refused.sources refused.unread name others held refused.read is told none in
    refused.some (none_refused refused.refusals (subst (λ (l : List SourceFile). Refusals l refused.refusals) unread.0 refused.refused))

first_reached : (names : List (List ℕ)) (old : Desk) (found name : List ℕ) (others : List (List ℕ)) (held : Held) → IsReached old names found → names ≡ name ∷ others → old.held ≡ Some held → map.get held name ≡ None → found ≡ name
first_reached names old found name others held reached is told none =
    let unread = none_read old names reached.sources (found ∷ reached.others) name others held reached.read is told none in
    let same : found ∷ reached.others ≡ name ∷ others = unread.1 in
    cc

first_absent : (names : List (List ℕ)) (old new : Desk) (ending : Ending) (name : List ℕ) (others : List (List ℕ)) (held : Held) → GiveNothing names old new ending → names ≡ name ∷ others → old.held ≡ Some held
    → map.get held name ≡ None → ¬ (Rose old.read_faults new.read_faults) → ending ≡ Absent name
first_absent names old new (Absent found) name others held gave is told none r = ap Absent (first_reached names old found name others held gave.0 is told none)
first_absent names old new (ReadFault found) name others held gave is told none r = absurd (r gave.2)
first_absent names old new (RefusedSources lines) name others held gave is told none r = absurd (none_told names old new lines name others held gave is told none)
first_absent names old new NoMemory name others held gave is told none r = elim gave [
  | inl lack ↦ absurd (MatchOption-at_some ⊤ (λ (names : Held). map.get names name ≢ None) held told (lack.there name others (none_read old names lack.sources lack.unread name others held lack.read is told none).1) none)
  | inr refused ↦ absurd (none_told names old new refused.0 name others held refused.1 is told none)
]
first_absent names old new ending name others held gave is told none r = absurd gave

-- all names are there where all their sources were read
taken_there : (desk : Desk) (names : List (List ℕ)) (name : List ℕ) (others : List (List ℕ)) (held : Held) → AreTaken desk names → names ≡ name ∷ others → desk.held ≡ Some held → map.get held name ≡ None → ⊥
taken_there desk names name others held taken is told none =
    let unread : [] ≡ name ∷ others = (none_read desk names taken.sources [] name others held taken.read is told none).1 in cc

-- ---- commands over sources

-- all is done, or the sources give nothing
parts_read : (names : List (List ℕ)) (gives : List SourceFile → Product → Type 0) (old new : Desk) (product : Product) (ending : Ending) → ReadsSources names gives old new product ending
    → ((ending ≡ Done) × (new ≡ old) × AreTaken old names) ⊎ (GiveNothing names old new ending × (product ≡ nothing))
parts_read names gives old new product Done reads = inl (refl, reads.0, reads.1.0)
parts_read names gives old new product (StillOpen said numbers) reads = inr reads
parts_read names gives old new product (Usage lines) reads = inr reads
parts_read names gives old new product (Absent name) reads = inr reads
parts_read names gives old new product (ReadFault name) reads = inr reads
parts_read names gives old new product (Refused name line cause) reads = inr reads
parts_read names gives old new product (RefusedSources lines) reads = inr reads
parts_read names gives old new product (Damaged said offset cause) reads = inr reads
parts_read names gives old new product (WriteFault name) reads = inr reads
parts_read names gives old new product NoMemory reads = inr reads

-- a command over sources is sound, whatever it makes of them
pub source_sound : (names : List (List ℕ)) (output : Option (List ℕ)) (gives : List SourceFile → Product → Type 0) → IsSound (source_task names output gives)
source_sound names output gives = record {
  changes = λ old new product ending reads. elim (parts_read names gives old new product ending reads) [
    | inl given ↦ inl given.1
    | inr none ↦ nothing_changes names output gives old new product ending none.1 none.0
  ];
  writes_nothing = λ old new name reads. reads.0;
  has_words = λ old new product lines reads. reads.0;
  done = λ old new product ending reads right r unbroken. elim (parts_read names gives old new product ending reads) [
    | inl given ↦ inl (ap status_of given.0)
    | inr none ↦ inr (right_taken names old new ending none.0 right r)
  ];
  absent = λ old new product ending name reads lacks r. elim (parts_read names gives old new product ending reads) [
    | inl given ↦ absurd (taken_there old names name lacks.others lacks.held given.2 lacks.first lacks.told lacks.none)
    | inr none ↦ (first_absent names old new ending name lacks.others lacks.held none.0 lacks.first lacks.told lacks.none r, none.1)
  ];
  there = λ old bytes name left lacks. taken_there old names name lacks.others lacks.held left.0 lacks.first lacks.told lacks.none;
}
