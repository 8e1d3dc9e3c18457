-- From what a command did to what its answer says.
use Rattle.std.proofs.Common.{◌≡◌, ◌≢◌, ℕ, List, [], ◌∷◌, Some, None, Result, Ok, Err, refl, sym, ap, subst, inl, inr, arith}
use Rattle.std.specs.Prelude.{◌⊎◌, ◌≤◌, length, take, Option, OnOk, OnErr, Contains, ⊤}
use Rattle.std.specs.Result.{IsErrAnd}
use Rattle.std.proofs.lemmas.List.{append-nil}
use Rattle.nl_io.specs.Count.{Rose}
use Rattle.nl_io.specs.Content.{Told, with_end, PutsFront}
use Rattle.nl_io.specs.Desk.{Desk, OnlyName, found_in}
use Rattle.nl_io.specs.TextWriters.{IsCutOff}
use Rattle.nl_io.specs.declared.failed.Failed.{Failed}
use Rattle.command_base.specs.declared.note.Note.{Note}
use Rattle.command_base.specs.declared.refusal.Refusal.{Refusal}
use Rattle.command_base.specs.declared.refusal.Refusal.TheVariants as refusals
use Rattle.command_base.specs.Endings.{ToldCause, Ending, Done, StillOpen, Usage, Absent, ReadFault, Refused, RefusedSources, Damaged, WriteFault, NoMemory, refusal_ending, ending_of, answer_ending}
use Rattle.command_base.specs.HeldFiles.{IsHeld, HoldsFront, IsThere}
use Rattle.command_base.specs.Scenes.{Scene, scene}
use Rattle.command_base.specs.Printing.{Prints, printed_ending}
use Rattle.command_base.specs.Tasks.{Product, nothing, Course, WhileReading, UntilBegun, WhilePrinting, Streaming, Task}
use Rattle.command_base.specs.Readings.{Form, OnlyRefused, Begun, never, GivesNoBytes, ReadsFile}
use Rattle.command_base.specs.Effects.{IsMade, Completes, StopsReading, StopsPrinting, IsPrinted, WantsMemory, CommandEffect}
use Rattle.command_base.specs.Soundness.{IsSound}
use Rattle.command_base.proofs.lemmas.SoundTasks.{the_one}

-- ---- answers

-- a call answered this refusal
pub ended_as : {T : Type 0} (r : Result T Refusal) (refusal : Refusal) → IsErrAnd r (λ e. e ≡ refusal)
    → ending_of r ≡ refusal_ending refusal
ended_as (Ok x) refusal is = absurd is
ended_as (Err e) refusal is = ap refusal_ending is

pub answered_as : (r : Result Note Refusal) (refusal : Refusal) → IsErrAnd r (λ e. e ≡ refusal)
    → answer_ending r ≡ refusal_ending refusal
answered_as (Ok note) refusal is = absurd is
answered_as (Err e) refusal is = ap refusal_ending is

-- a refusal is no end of what was done
pub not_done : (refusal : Refusal) → refusal_ending refusal ≢ Done
not_done (refusals.Usage text) e = cc
not_done (refusals.Absent name) e = cc
not_done (refusals.ReadFault name) e = cc
not_done (refusals.Refused name line cause) e = cc
not_done (refusals.RefusedSources lines) e = cc
not_done (refusals.Damaged name offset cause) e = cc
not_done (refusals.WriteFault name) e = cc
not_done refusals.NoMemory e = cc

-- ---- a text that is printed

-- how a text was put is how it is printed
pub prints_as : {T : Type 0} (put : Result T Failed) (text : List ℕ) (was is : Told) (before after : ℕ)
    → OnOk put (is ≡ with_end text was) → OnOk put (after ≡ before) → OnErr put (IsCutOff text was is before after)
    → Prints text was is before after (printed_ending put)
prints_as (Ok x) text was is before after whole counted cut = (whole, counted)
prints_as (Err e) text was is before after whole counted cut = (refl, cut.some, cut.put, cut.rose)

-- it takes no memory
pub prints_free : {T : Type 0} (put : Result T Failed) → printed_ending put ≢ NoMemory
prints_free (Ok x) e = cc
prints_free (Err e) same = cc

-- nothing was printed
pub put_nothing : (was : Told) → was ≡ with_end [] was
put_nothing None = refl
put_nothing (Some content) = ap Some (sym (append-nil content))

-- ---- inputs that give nothing

-- nothing comes of a file that gave no bytes
pub no_bytes : (input : List ℕ) (form : Form) (begun : Begun) (old new : Desk) (ending : Ending)
    → GivesNoBytes input old new ending → ReadsFile input form begun old new nothing ending
no_bytes input form begun old new (Absent name) gives = (gives, refl)
no_bytes input form begun old new (ReadFault name) gives = (gives, inl refl)
no_bytes input form begun old new NoMemory gives = (gives, refl)
no_bytes input form begun old new ending gives = absurd gives

-- A file that gave nothing, or is refused, gives nothing to a command that wants more of it.
pub none_given : (input : List ℕ) (IsRefused : Desk → Product → List ℕ → Option ℕ → ToldCause → Type 0) (form : Form)
    (old new : Desk) (ending : Ending)
    → ((name : List ℕ) (line : Option ℕ) (cause : ToldCause) → IsRefused old nothing name line cause
    → form old nothing (Refused name line cause))
    → ReadsFile input (OnlyRefused IsRefused) never old new nothing ending
    → ReadsFile input form never old new nothing ending
none_given input IsRefused form old new (Absent name) of none = none
none_given input IsRefused form old new (ReadFault name) of none = none
none_given input IsRefused form old new (Refused name line cause) of none = (none.0, none.1, of name line cause none.2)
none_given input IsRefused form old new NoMemory of none = none
none_given input IsRefused form old new (Usage lines) of none = absurd none
none_given input IsRefused form old new (WriteFault name) of none = absurd none.text
none_given input IsRefused form old new ending of none = absurd none.2

-- memory was wanting while the inputs were read, whatever the course
wants_reading : (course : Course) (task : Task) (old new : Scene) → StopsReading task old new
    → WantsMemory course task old new
wants_reading WhileReading task old new stops = stops
wants_reading UntilBegun task old new stops = inl stops
wants_reading WhilePrinting task old new stops = inl stops
wants_reading Streaming task old new stops = inl stops

-- all was read and printed, and nothing was to be made
all_printed : (task : Task) (old : Scene) (desk : Desk) (ending : Ending) → task.reads old.desk desk nothing ending
    → Completes task old (scene desk old.put old.faults) ending
all_printed task old desk ending reads = record {
  product = nothing;
  read = desk;
  reading = reads;
  made = refl;
  printed = put_nothing old.put;
  counted = refl;
}

-- Nothing came of the inputs, and nothing was made or printed.
pub nothing_came : (task : Task) (old : Scene) (desk : Desk) (ending : Ending) → IsSound task
    → task.reads old.desk desk nothing ending → CommandEffect task old (scene desk old.put old.faults) ending
nothing_came task old desk Done sound reads = all_printed task old desk Done reads
nothing_came task old desk (StillOpen name numbers) sound reads =
    all_printed task old desk (StillOpen name numbers) reads
nothing_came task old desk (Usage lines) sound reads = absurd (sound.has_words old.desk desk nothing lines reads)
nothing_came task old desk (Absent name) sound reads = all_printed task old desk (Absent name) reads
nothing_came task old desk (ReadFault name) sound reads = all_printed task old desk (ReadFault name) reads
nothing_came task old desk (Refused name line cause) sound reads =
    all_printed task old desk (Refused name line cause) reads
nothing_came task old desk (RefusedSources lines) sound reads =
    all_printed task old desk (RefusedSources lines) reads
nothing_came task old desk (Damaged name offset cause) sound reads =
    all_printed task old desk (Damaged name offset cause) reads
nothing_came task old desk (WriteFault name) sound reads =
    absurd (sound.writes_nothing old.desk desk name reads)
nothing_came task old desk NoMemory sound reads =
    wants_reading task.course task old (scene desk old.put old.faults)
    (record { product = nothing; reading = reads; unprinted = refl; counted = refl })

-- ---- what was read is made and printed

-- The inputs were read and give this product and this end, and what is to be made of them was made.
pub record HasRead (task : Task) (old : Scene) (desk : Desk) (product : Product) (verdict : Ending) : Type 0 where
  pub read : Desk
  pub reading : task.reads old.desk read product verdict
  pub made : IsMade product.made task.output read desk

-- the text was printed whole
pub has_completed : (task : Task) (old : Scene) (desk : Desk) (product : Product) (verdict : Ending) (put : Told)
    (faults : ℕ) → HasRead task old desk product verdict → put ≡ with_end product.text old.put → faults ≡ old.faults
    → Completes task old (scene desk put faults) verdict
has_completed task old desk product verdict put faults has printed counted = record {
  product = product;
  read = has.read;
  reading = has.reading;
  made = has.made;
  printed = printed;
  counted = counted;
}

-- an end that a command has where no write failed and memory sufficed
abbrev pub IsVerdict : Ending → Type 0
IsVerdict (Usage lines) = ⊥
IsVerdict (WriteFault name) = ⊥
IsVerdict NoMemory = ⊥
IsVerdict ending = ⊤

-- it is the end of the command then
pub completes : (task : Task) (old new : Scene) (ending : Ending) → IsVerdict ending → Completes task old new ending
    → CommandEffect task old new ending
completes task old new Done is whole = whole
completes task old new (StillOpen name numbers) is whole = whole
completes task old new (Usage lines) is whole = absurd is
completes task old new (Absent name) is whole = whole
completes task old new (ReadFault name) is whole = whole
completes task old new (Refused name line cause) is whole = whole
completes task old new (RefusedSources lines) is whole = whole
completes task old new (Damaged name offset cause) is whole = whole
completes task old new (WriteFault name) is whole = absurd is
completes task old new NoMemory is whole = absurd is

-- The printing of the text was cut off, whatever end it would have had.
pub cut_off : (task : Task) (old : Scene) (desk : Desk) (product : Product) (verdict ending : Ending) (put : Told)
    (faults : ℕ) → HasRead task old desk product verdict → Prints product.text old.put put old.faults faults ending
    → ending ≢ Done → ending ≢ NoMemory → CommandEffect task old (scene desk put faults) ending
cut_off task old desk product verdict Done put faults has prints cut memory = absurd (cut refl)
cut_off task old desk product verdict (WriteFault name) put faults has prints cut memory = inl (
  prints.0,
  record {
    product = product;
    read = has.read;
    verdict = verdict;
    reading = has.reading;
    made = has.made;
    some = prints.1;
    printed = prints.2;
    rose = prints.3;
  },
)
cut_off task old desk product verdict NoMemory put faults has prints cut memory = absurd (memory refl)
cut_off task old desk product verdict ending put faults has prints cut memory = absurd prints

-- Memory may be wanting while the text is printed.
abbrev pub MayStop : Course → Type 0
MayStop WhilePrinting = ⊤
MayStop Streaming = ⊤
MayStop course = ⊥

wants_printing : (course : Course) (task : Task) (old new : Scene) → MayStop course → StopsPrinting task old new
    → WantsMemory course task old new
wants_printing WhileReading task old new may stops = absurd may
wants_printing UntilBegun task old new may stops = absurd may
wants_printing WhilePrinting task old new may stops = inr stops
wants_printing Streaming task old new may stops = inr stops

-- The printing of the text stopped for want of memory.
pub stopped : (task : Task) (old : Scene) (desk : Desk) (product : Product) (verdict : Ending) (put : Told)
    (faults : ℕ) → HasRead task old desk product verdict → MayStop task.course → IsPrinted verdict task.course
    → ((name : List ℕ) → Contains task.inputs name → IsThere old.desk name) → PutsFront product.text old.put put
    → faults ≡ old.faults → CommandEffect task old (scene desk put faults) NoMemory
stopped task old desk product verdict put faults has may is_printed there printed counted =
    wants_printing task.course task old (scene desk put faults) may
    (record {
      product = product;
      read = has.read;
      verdict = verdict;
      reading = has.reading;
      is_printed = is_printed;
      there = there;
      made = has.made;
      printed = printed;
      counted = counted;
    })

-- The text was printed without want of memory, and all is done then.
pub printed_done : (task : Task) (old : Scene) (desk : Desk) (product : Product) (ending : Ending) (put : Told)
    (faults : ℕ) → HasRead task old desk product Done → Prints product.text old.put put old.faults faults ending
    → ending ≢ NoMemory → CommandEffect task old (scene desk put faults) ending
printed_done task old desk product Done put faults has prints memory =
    has_completed task old desk product Done put faults has prints.0 prints.1
printed_done task old desk product (WriteFault name) put faults has prints memory =
    cut_off task old desk product Done (WriteFault name) put faults has prints (λ e. cc) (λ e. cc)
printed_done task old desk product NoMemory put faults has prints memory = absurd (memory refl)
printed_done task old desk product ending put faults has prints memory = absurd prints

-- The same where memory may be wanting.
pub streamed_done : (task : Task) (old : Scene) (desk : Desk) (product : Product) (ending : Ending) (put : Told)
    (faults : ℕ) → HasRead task old desk product Done → MayStop task.course
    → ((name : List ℕ) → Contains task.inputs name → IsThere old.desk name)
    → Prints product.text old.put put old.faults faults ending → CommandEffect task old (scene desk put faults) ending
streamed_done task old desk product Done put faults has may there prints =
    has_completed task old desk product Done put faults has prints.0 prints.1
streamed_done task old desk product (WriteFault name) put faults has may there prints =
    cut_off task old desk product Done (WriteFault name) put faults has prints (λ e. cc) (λ e. cc)
streamed_done task old desk product NoMemory put faults has may there prints =
    stopped task old desk product Done put faults has may tt there prints.0 prints.1
streamed_done task old desk product ending put faults has may there prints = absurd prints

-- all inputs of a command that has one are there where that one is
pub only_there : (input : List ℕ) (desk : Desk) → IsThere desk input → (name : List ℕ) → Contains (input ∷ []) name
    → IsThere desk name
only_there input desk there name contains =
    subst (IsThere desk) (the_one input name contains) there

-- a command without inputs has all of them
pub none_wanted : (desk : Desk) (name : List ℕ) → Contains [] name → IsThere desk name
none_wanted desk name contains = absurd (omega (arith, contains.1))

-- ---- what couldn't be made

-- The output couldn't be created, or a write of it failed.
pub lost : (task : Task) (old : Scene) (desk : Desk) (name bytes : List ℕ) → task.output ≡ Some name
    → task.leaves old.desk bytes → (found_in desk name ≡ found_in old.desk name) ⊎ IsHeld desk name bytes
    → OnlyName name old.desk desk → Rose old.desk.write_faults desk.write_faults
    → CommandEffect task old (scene desk old.put old.faults) (WriteFault name)
lost task old desk name bytes output leaves holds only failed = inr (record {
  output = output;
  bytes = bytes;
  leaves = leaves;
  holds = holds;
  only = only;
  failed = failed;
  unprinted = refl;
  counted = refl;
})

-- ---- an output that is saved, and then the text is printed

-- The output was saved, and then the text was printed.
pub saved : (task : Task) (old : Scene) (desk : Desk) (product : Product) (name bytes : List ℕ) (ending : Ending)
    (put : Told) (faults : ℕ) → task.output ≡ Some name → product.made ≡ Some bytes
    → task.reads old.desk old.desk product Done → IsHeld desk name bytes → OnlyName name old.desk desk
    → desk.write_faults ≡ old.desk.write_faults → Prints product.text old.put put old.faults faults ending
    → ending ≢ NoMemory → CommandEffect task old (scene desk put faults) ending
saved task old desk product name bytes ending put faults output is_made reading held only counted prints memory =
    let made : IsMade product.made task.output old.desk desk =
    subst (λ (o : Option (List ℕ)). IsMade product.made o old.desk desk) (sym output)
    (subst (λ (m : Option (List ℕ)). IsMade m (Some name) old.desk desk) (sym is_made) (held, only, counted)) in
    printed_done task old desk product ending put faults (record { read = old.desk; reading = reading; made = made })
    prints memory

-- The output couldn't be saved whole.
pub unsaved : (task : Task) (old : Scene) (desk : Desk) (name bytes : List ℕ) → task.output ≡ Some name
    → ((n : ℕ) → n ≤ length bytes → task.leaves old.desk (take n bytes))
    → (found_in desk name ≡ found_in old.desk name) ⊎ HoldsFront desk name bytes → OnlyName name old.desk desk
    → Rose old.desk.write_faults desk.write_faults
    → CommandEffect task old (scene desk old.put old.faults) (WriteFault name)
unsaved task old desk name bytes output part holds only failed = elim holds [
  | inl same ↦ lost task old desk name (take 0 bytes) output (part 0 (omega arith)) (inl same) only failed
  | inr front ↦ lost task old desk name (take front.0 bytes) output (part front.0 front.1) (inr front.2) only failed
]
