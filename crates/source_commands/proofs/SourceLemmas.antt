-- Sources that are read one by one, and what their answer is.
use Rattle.std.proofs.Common.{◌≡◌, ◌≢◌, ℕ, ◌+◌, ◌<◌, ◌≤◌, true, false, List, [], ◌∷◌, ◌++◌, length, map, take, drop, get_or, Option, Some, None, Result, Ok, Err, refl, sym, ap, subst, ◌∙◌, inl, arith, add-one, drop-cons}
use Rattle.std.specs.Prelude.{IfSome, IfNone, IfOk, IfErr, replicate}
use Rattle.std.specs.FinMap as map
use Rattle.std.specs.Borrow.{Bor}
use Rattle.std.specs.Global.{Vec}
use Rattle.std.specs.Result.{IsErrAnd}
use Rattle.std.specs.List.{AllByRecursion, flat_map}
use Rattle.std.proofs.lemmas.Bool.{false≢true}
use Rattle.std.proofs.lemmas.Grind.{flat_map-append}
use Rattle.std.proofs.lemmas.List.{take-append-drop, take_all, take_more, append-nil, map-append, length-replicate}
use Rattle.std.proofs.lemmas.List.Elements.{All-push, All-from_recursion, recursion_from_All}
use Rattle.nl_io.specs.Desk.{Desk, Held, IsAbsent}
use Rattle.preprocessor.specs.declared.numbering.Numbering.{Numbering}
use Rattle.source_scan.specs.declared.statement.TheConstants.{MAX_SOURCE}
use Rattle.preprocessor.specs.Causes.{refusal_line}
use Rattle.preprocessor.specs.Findings.{SourceFile}
use Rattle.preprocessor.specs.Numbering.{refusals_of, excess_refusal, Numbered, Refusals, NumbersSources}
use Rattle.preprocessor.proofs.lemmas.Told.{numbering_refuses, numbering_numbers, not_empty}
use Rattle.command_base.specs.declared.refusal.Refusal.{Refusal}
use Rattle.command_base.specs.declared.refusal.Refusal.TheVariants.{NoMemory as WantsMemory}
use Rattle.command_base.specs.Endings.{Ending, Done, StillOpen, Usage, Absent, ReadFault, Refused, RefusedSources, Damaged, WriteFault, NoMemory, refusal_ending}
use Rattle.command_base.specs.HeldFiles.{IsHeld, IsThere, HoldsSuch}
use Rattle.command_base.specs.Readings.{GivesNoBytes}
use Rattle.source_commands.specs.Sources.{source_name, AreRead, AreTaken, HaveExcess, HaveNoExcess, EndsReading, IsNumbered, IsMissing, AreRefused, IsReached, GiveNothing}
use Rattle.source_commands.specs.Sources.EndsReading.{all_read, too_many, absent, failed}
use Rattle.command_base.specs.Words.{contents}

-- ---- what a numbering tells

-- a message is one too many where it is stopped
pub stopped_excess : (sources : List SourceFile) (numbering : Numbering) → NumbersSources sources numbering → numbering.is_stopped ≡ true → HaveExcess sources
stopped_excess sources numbering (NumbersSources.all_read findings have holds) stopped = absurd (false≢true (sym holds.goes_on ∙ stopped))
stopped_excess sources numbering (NumbersSources.stopped read unread findings joined have holds) stopped = record {
  front = read;
  others = unread;
  joined = joined;
  findings = findings;
  have = have;
  before = holds.front;
  message = holds.message;
  stops = holds.stops;
}

-- and then something is refused
pub stopped_some : (sources : List SourceFile) (numbering : Numbering) → NumbersSources sources numbering → numbering.is_stopped ≡ true → numbering.refusals.items ≢ []
stopped_some sources numbering (NumbersSources.all_read findings have holds) stopped none = absurd (false≢true (sym holds.goes_on ∙ stopped))
stopped_some sources numbering (NumbersSources.stopped read unread findings joined have holds) stopped none =
    not_empty (refusals_of holds.front) (excess_refusal holds.message) (sym holds.refusals ∙ none)

-- none is one too many where it isn't
pub going_on : (sources : List SourceFile) (numbering : Numbering) → NumbersSources sources numbering → numbering.is_stopped ≡ false → HaveNoExcess sources
going_on sources numbering (NumbersSources.all_read findings have holds) goes_on = record { findings = findings; have = have; few = holds.few }
going_on sources numbering (NumbersSources.stopped read unread findings joined have holds) goes_on = absurd (false≢true (sym goes_on ∙ holds.stopped))

-- ---- names

pub contents-append : (a b : List (Bor (List ℕ))) → contents (a ++ b) ≡ contents a ++ contents b
contents-append a b = map-append (λ (name : Bor (List ℕ)). name.now) a b

-- the names before the i-th, and the others
pub names_parted : (names : List (Bor (List ℕ))) (i : ℕ) → contents names ≡ contents (take i names) ++ contents (drop i names)
names_parted names i = sym (ap contents (take-append-drop i names)) ∙ contents-append (take i names) (drop i names)

-- the i-th name comes next
pub name_next : (names : List (Bor (List ℕ))) (i : ℕ) (d : Bor (List ℕ)) → i < length names → contents (drop i names) ≡ (get_or names i d).now ∷ contents (drop (i + 1) names)
name_next names i d within =
    let next : drop i names ≡ get_or names i d ∷ drop (i + 1) names = rw (add-one, drop-cons names i d within) in
    ap contents next

-- ---- what was read

-- of the first i names these sources were read
pub record ReadSoFar (desk : Desk) (names : List (Bor (List ℕ))) (i : ℕ) (sources : List SourceFile) : Type 0 where
  pub named : contents (take i names) ≡ map source_name sources
  pub held : AllByRecursion (λ source. IsHeld desk source.name source.bytes) sources

pub none_so_far : (desk : Desk) (names : List (Bor (List ℕ))) → ReadSoFar desk names 0 []
none_so_far desk names = record { named = refl; held = tt }

-- the others weren't
pub not_read : (desk : Desk) (names : List (Bor (List ℕ))) (i : ℕ) (sources : List SourceFile) (unread : List (List ℕ)) → ReadSoFar desk names i sources → contents (drop i names) ≡ unread
    → AreRead desk (contents names) sources unread
not_read desk names i sources unread read is = record {
  named = names_parted names i ∙ ap (λ (l : List (List ℕ)). l ++ contents (drop i names)) read.named ∙ ap (λ (l : List (List ℕ)). map source_name sources ++ l) is;
  held = read.held;
}

-- all were, behind the last
pub read_all : (desk : Desk) (names : List (Bor (List ℕ))) (i : ℕ) (sources : List SourceFile) → ReadSoFar desk names i sources → length names ≤ i → AreRead desk (contents names) sources []
read_all desk names i sources read past = record {
  named = ap contents (sym (take_all i names past)) ∙ read.named ∙ sym (append-nil (map source_name sources));
  held = read.held;
}

-- one more
pub read_more : (desk : Desk) (names : List (Bor (List ℕ))) (i : ℕ) (d : Bor (List ℕ)) (sources : List SourceFile) (bytes : List ℕ) → ReadSoFar desk names i sources → i < length names
    → IsHeld desk (get_or names i d).now bytes → ReadSoFar desk names (i + 1) (sources ++ record { name = (get_or names i d).now; bytes = bytes } ∷ [])
read_more desk names i d sources bytes read within held =
    let source : SourceFile = record { name = (get_or names i d).now; bytes = bytes } in
    let is_held : SourceFile → Type 0 = λ (s : SourceFile). IsHeld desk s.name s.bytes in
    record {
      named = ap contents (take_more names i d within) ∙ contents-append (take i names) (get_or names i d ∷ [])
          ∙ ap (λ (l : List (List ℕ)). l ++ (get_or names i d).now ∷ []) read.named ∙ sym (map-append source_name sources (source ∷ []));
      held = recursion_from_All is_held (sources ++ source ∷ []) (All-push is_held sources source (All-from_recursion is_held sources read.held) held);
    }

-- ---- what a name held

large_held : (held : Option Held) (name : List ℕ) (limit : ℕ) → IfSome held (λ h. (bytes : List ℕ) × (map.get h name ≡ Some bytes) × (limit < length bytes))
    → (bytes : List ℕ) × IfSome held (λ h. map.get h name ≡ Some bytes) × (limit < length bytes)
large_held None name limit such = (replicate (limit + 1) 0, tt, omega (arith, length-replicate {A = ℕ} (limit + 1) 0))
large_held (Some h) name limit (bytes, is, large) = (bytes, is, large)

-- the bytes that the i-th name held are those that were read, or too many
pub held_bytes : (desk : Desk) (names : List (Bor (List ℕ))) (i : ℕ) (d : Bor (List ℕ)) (limit : ℕ) (source : Option (Vec ℕ)) → IfSome source (λ read. IsHeld desk (get_or names i d).now read.items)
    → IfNone source (HoldsSuch desk (get_or names i d).now (λ bytes. limit < length bytes))
    → (bytes : List ℕ) × IsHeld desk (get_or names i d).now bytes × IfSome source (λ read. read.items ≡ bytes) × IfNone source (limit < length bytes)
held_bytes desk names i d limit None all longer =
    let found = large_held desk.held (get_or names i d).now limit longer in
    (found.0, found.1, tt, found.2)
held_bytes desk names i d limit (Some read) all longer = (read.items, all, refl, tt)

-- ---- one source more

pub source_added : {E : Type 0} (numbering : Numbering) (name : List ℕ) (source : Option (Vec ℕ)) (read : Vec ℕ) (r : Result Numbering E) → source ≡ Some read
    → IfOk r (λ next. (sources : List SourceFile) → NumbersSources sources numbering → NumbersSources (sources ++ record { name = name; bytes = read.items } ∷ []) next)
    → IfOk r (λ next. (sources : List SourceFile) (bytes : List ℕ) → IfSome source (λ found. found.items ≡ bytes) → IfNone source (MAX_SOURCE < length bytes) → NumbersSources sources numbering
    → NumbersSources (sources ++ record { name = name; bytes = bytes } ∷ []) next)
source_added numbering name source read (Ok next) is added = λ sources bytes same large numbers.
    let found : read.items ≡ bytes = subst (λ (o : Option (Vec ℕ)). IfSome o (λ v. v.items ≡ bytes)) is same in
    subst (λ (b : List ℕ). NumbersSources (sources ++ record { name = name; bytes = b } ∷ []) next) found (added sources numbers)
source_added numbering name source read (Err e) is added = tt

pub large_added : {E : Type 0} (numbering : Numbering) (name : List ℕ) (source : Option (Vec ℕ)) (r : Result Numbering E) → source ≡ None
    → IfOk r (λ next. (sources : List SourceFile) (bytes : List ℕ) → MAX_SOURCE < length bytes → NumbersSources sources numbering → NumbersSources (sources ++ record { name = name; bytes = bytes } ∷ []) next)
    → IfOk r (λ next. (sources : List SourceFile) (bytes : List ℕ) → IfSome source (λ found. found.items ≡ bytes) → IfNone source (MAX_SOURCE < length bytes) → NumbersSources sources numbering
    → NumbersSources (sources ++ record { name = name; bytes = bytes } ∷ []) next)
large_added numbering name source (Ok next) is added = λ sources bytes same large numbers.
    added sources bytes (subst (λ (o : Option (Vec ℕ)). IfNone o (MAX_SOURCE < length bytes)) is large) numbers
large_added numbering name source (Err e) is added = tt

-- ---- answers

-- reading ends at a name that isn't there or can't be read
missing_ends : (old new : Desk) (sources : List SourceFile) (name : List ℕ) (others : List (List ℕ)) (ending : Ending) → HaveNoExcess sources → GivesNoBytes name old new ending → IsMissing ending
    → EndsReading old new sources (name ∷ others)
missing_ends old new sources name others Done few gives missing = absurd gives
missing_ends old new sources name others (StillOpen said numbers) few gives missing = absurd gives
missing_ends old new sources name others (Damaged said offset cause) few gives missing = absurd gives
missing_ends old new sources name others (Usage lines) few gives missing = absurd gives
missing_ends old new sources name others (Absent said) few gives missing = absent name others refl few gives.2 gives.1
missing_ends old new sources name others (ReadFault said) few gives missing = failed name others refl few gives.1 gives.2
missing_ends old new sources name others (Refused said line cause) few gives missing = absurd gives
missing_ends old new sources name others (RefusedSources lines) few gives missing = absurd gives
missing_ends old new sources name others (WriteFault said) few gives missing = absurd gives
missing_ends old new sources name others NoMemory few gives missing = absurd missing

next_there : (old : Desk) (name : List ℕ) (others : List (List ℕ)) → IsThere old name → (next : List ℕ) (rest : List (List ℕ)) → name ∷ others ≡ next ∷ rest → IsThere old next
next_there old name others there next rest is = let same : name ≡ next = cc in subst (IsThere old) same there

-- memory was wanting for a name that is there
pub lacks_next : (names : List (List ℕ)) (old new : Desk) (sources : List SourceFile) (name : List ℕ) (others : List (List ℕ)) → AreRead old names sources (name ∷ others) → IsThere old name → new ≡ old
    → GiveNothing names old new NoMemory
lacks_next names old new sources name others read there same =
    inl (record { sources = sources; unread = name ∷ others; read = read; there = next_there old name others there; same = same })

pub lacks_answered : {T : Type 0} (names : List (List ℕ)) (old new : Desk) (r : Result T Refusal) → IsErrAnd r (λ e. e ≡ WantsMemory) → GiveNothing names old new NoMemory
    → IfErr r (λ refusal. GiveNothing names old new (refusal_ending refusal))
lacks_answered names old new (Ok x) is nothing = tt
lacks_answered names old new (Err e) is nothing = subst (λ (refusal : Refusal). GiveNothing names old new (refusal_ending refusal)) (sym is) nothing

-- nothing is refused, and a name gave no bytes
missing_gives : (names : List (List ℕ)) (old new : Desk) (sources : List SourceFile) (numbering : Numbering) (name : List ℕ) (others : List (List ℕ)) (ending : Ending) → AreRead old names sources (name ∷ others)
    → NumbersSources sources numbering → GivesNoBytes name old new ending → (IsMissing ending → numbering.refusals.items ≡ []) → GiveNothing names old new ending
missing_gives names old new sources numbering name others Done read numbers gives none = absurd gives
missing_gives names old new sources numbering name others (StillOpen said writers) read numbers gives none = absurd gives
missing_gives names old new sources numbering name others (Damaged said offset cause) read numbers gives none = absurd gives
missing_gives names old new sources numbering name others (Usage lines) read numbers gives none = absurd gives
missing_gives names old new sources numbering name others (Absent said) read numbers gives none =
    subst (λ (n : List ℕ). IsReached old names n × IsAbsent old n × (new ≡ old)) (sym gives.0)
    (record { sources = sources; others = others; read = read; right = subst (Refusals sources) (none tt) (numbering_refuses sources numbering numbers) }, gives.2, gives.1)
missing_gives names old new sources numbering name others (ReadFault said) read numbers gives none = (
  subst (IsReached old names) (sym gives.0) (record { sources = sources; others = others; read = read; right = subst (Refusals sources) (none tt) (numbering_refuses sources numbering numbers) }),
  gives.1,
  gives.2,
)
missing_gives names old new sources numbering name others (Refused said line cause) read numbers gives none = absurd gives
missing_gives names old new sources numbering name others (RefusedSources lines) read numbers gives none = absurd gives
missing_gives names old new sources numbering name others (WriteFault said) read numbers gives none = absurd gives
missing_gives names old new sources numbering name others NoMemory read numbers gives none = lacks_next names old new sources name others read gives.1 gives.0

-- what is answered where a name gave no bytes
pub missing_numbered : (names : List (List ℕ)) (old new : Desk) (sources : List SourceFile) (numbering : Numbering) (name : List ℕ) (others : List (List ℕ)) (ending : Ending) (r : Result Numbering Refusal)
    → AreRead old names sources (name ∷ others) → NumbersSources sources numbering → HaveNoExcess sources → GivesNoBytes name old new ending
    → IfOk r (λ same. (same ≡ numbering) × (numbering.refusals.items ≢ []) × IsMissing ending) → IfOk r (IsNumbered names old new)
missing_numbered names old new sources numbering name others ending (Ok same) read numbers few gives (is, some, missing) = record {
  sources = sources;
  unread = name ∷ others;
  read = read;
  numbers = subst (NumbersSources sources) (sym is) numbers;
  ends = missing_ends old new sources name others ending few gives missing;
  whole = λ none. absurd (some (ap (λ (n : Numbering). n.refusals.items) (sym is) ∙ none));
}
missing_numbered names old new sources numbering name others ending (Err refusal) read numbers few gives kept = tt

pub missing_nothing : (names : List (List ℕ)) (old new : Desk) (sources : List SourceFile) (numbering : Numbering) (name : List ℕ) (others : List (List ℕ)) (refusal : Refusal) (r : Result Numbering Refusal)
    → AreRead old names sources (name ∷ others) → NumbersSources sources numbering → GivesNoBytes name old new (refusal_ending refusal)
    → IfErr r (λ told. (told ≡ refusal) × (IsMissing (refusal_ending told) → numbering.refusals.items ≡ [])) → IfErr r (λ told. GiveNothing names old new (refusal_ending told))
missing_nothing names old new sources numbering name others refusal (Ok same) read numbers gives told = tt
missing_nothing names old new sources numbering name others refusal (Err found) read numbers gives (is, none) =
    missing_gives names old new sources numbering name others (refusal_ending found) read numbers (subst (λ (e : Ending). GivesNoBytes name old new e) (ap refusal_ending (sym is)) gives) none

-- a message is one too many, and no more is read
pub stopped_numbered : (names : List (List ℕ)) (old new : Desk) (sources : List SourceFile) (unread : List (List ℕ)) (numbering : Numbering) → AreRead old names sources unread → NumbersSources sources numbering
    → numbering.is_stopped ≡ true → new ≡ old → IsNumbered names old new numbering
stopped_numbered names old new sources unread numbering read numbers stopped same = record {
  sources = sources;
  unread = unread;
  read = read;
  numbers = numbers;
  ends = too_many (stopped_excess sources numbering numbers stopped) same;
  whole = λ none. absurd (stopped_some sources numbering numbers stopped none);
}

-- all names were read
pub all_numbered : (names : List (List ℕ)) (old new : Desk) (sources : List SourceFile) (numbering : Numbering) → AreRead old names sources [] → NumbersSources sources numbering → new ≡ old
    → IsNumbered names old new numbering
all_numbered names old new sources numbering read numbers same =
    record { sources = sources; unread = []; read = read; numbers = numbers; ends = all_read refl same; whole = λ none. (refl, same) }

-- ---- what follows from a numbering

-- where it refuses something, these lines tell of it
pub refused_told : (names : List (List ℕ)) (old new : Desk) (numbering : Numbering) (lines : List ℕ) → IsNumbered names old new numbering → numbering.refusals.items ≢ []
    → lines ≡ flat_map refusal_line numbering.refusals.items → AreRefused names old new lines
refused_told names old new numbering lines numbered some told = record {
  sources = numbered.sources;
  unread = numbered.unread;
  refusals = numbering.refusals.items;
  read = numbered.read;
  ends = numbered.ends;
  refused = numbering_refuses numbered.sources numbering numbered.numbers;
  some = some;
  lines_are = told;
}

-- else all sources were taken, and it has their messages
pub all_taken : (names : List (List ℕ)) (old new : Desk) (numbering : Numbering) → IsNumbered names old new numbering → numbering.refusals.items ≡ []
    → (taken : AreTaken old names) × Numbered taken.sources numbering.dictionary numbering.statements
all_taken names old new numbering numbered none = (
  record {
    sources = numbered.sources;
    read = subst (AreRead old names numbered.sources) (numbered.whole none).0 numbered.read;
    right = subst (Refusals numbered.sources) none (numbering_refuses numbered.sources numbering numbered.numbers);
  },
  numbering_numbers numbered.sources numbering numbered.numbers none,
)

-- memory was wanting behind the last source
pub lacks_behind_last : (names : List (List ℕ)) (old new : Desk) → AreTaken old names → new ≡ old → GiveNothing names old new NoMemory
lacks_behind_last names old new taken same =
    inl (record { sources = taken.sources; unread = []; read = taken.read; there = λ name others is. absurd cc; same = same })
