-- What follows from how any command ends whose task is sound.
use Rattle.std.proofs.Common.{◌≡◌, ◌≢◌, ℕ, List, [], ◌∷◌, Option, Some, None, refl, sym, ap, subst, ◌∙◌, inl, inr, arith}
use Rattle.std.specs.Prelude.{◌⊎◌, Contains}
use Rattle.std.specs.FinMap as map
use Rattle.nl_io.specs.Count.{Rose}
use Rattle.nl_io.specs.Desk.{Desk, Held, OnlyReadFaults, OnlyName, found_in}
use Rattle.command_base.specs.Endings.{Ending, IsDone, Done, StillOpen, Usage, Absent, ReadFault, Refused, RefusedSources, Damaged, WriteFault, NoMemory}
use Rattle.command_base.proofs.lemmas.HeldLaws.{none_there}
use Rattle.command_base.specs.Scenes.{Scene}
use Rattle.command_base.specs.Tasks.{Product, WhileReading, UntilBegun, WhilePrinting, Streaming, Course, Task}
use Rattle.command_base.specs.Effects.{IsMade, Completes, FailsToPrint, FailsToMake, StopsReading, StopsBegun, StopsPrinting, WantsMemory, CommandEffect}
use Rattle.command_base.specs.Soundness.{LacksFirst, FailsToRead, IsSound}

-- ---- what stays

-- all names but that of the output hold what they held, and the same files are open
record Stays (output : Option (List ℕ)) (old new : Desk) : Type 0 where
  held : (other : List ℕ) → output ≢ Some other → found_in new other ≡ found_in old other
  left : new.left ≡ old.left
  made : new.made ≡ old.made

read_stays : (output : Option (List ℕ)) (old new : Desk) → OnlyReadFaults old new → Stays output old new
read_stays output old new only = record {
  held = λ other ne. ap (λ (d : Desk). found_in d other) only.same;
  left = ap (λ (d : Desk). d.left) only.same;
  made = ap (λ (d : Desk). d.made) only.same;
}

name_stays : (output : Option (List ℕ)) (name : List ℕ) (old new : Desk) → output ≡ Some name → OnlyName name old new → Stays output old new
name_stays output name old new is only = record {
  held = λ other ne. only.held other (λ same. ne (is ∙ ap Some (sym same)));
  left = only.left;
  made = only.made;
}

-- nothing but the output changed, and no call on files failed
record OnlyMade (output : Option (List ℕ)) (old new : Desk) : Type 0 where
  stays : Stays output old new
  read_faults : new.read_faults ≡ old.read_faults
  write_faults : new.write_faults ≡ old.write_faults

all_same : (output : Option (List ℕ)) (desk : Desk) → OnlyMade output desk desk
all_same output desk = record {
  stays = record { held = λ other ne. refl; left = refl; made = refl };
  read_faults = refl;
  write_faults = refl;
}

only_made : (made output : Option (List ℕ)) (old new : Desk) → IsMade made output old new → OnlyMade output old new
only_made None output old new is = subst (OnlyMade output old) (sym is) (all_same output old)
only_made (Some bytes) (Some name) old new is = record {
  stays = name_stays (Some name) name old new refl is.1;
  read_faults = is.1.read_faults;
  write_faults = is.2;
}
only_made (Some bytes) None old new is = absurd is

-- ---- what was read, and made of it

-- reading changed nothing, or it failed, and nothing was made
changed : (task : Task) (old read new : Desk) (product : Product) (verdict : Ending) → IsSound task → task.reads old read product verdict → IsMade product.made task.output read new
    → OnlyMade task.output old new ⊎ FailsToRead task old new product verdict
changed task old read new product verdict sound reads made = elim (sound.changes old read product verdict reads) [
  | inl same ↦ inl (subst (λ (d : Desk). OnlyMade task.output d new) same (only_made product.made task.output read new made))
  | inr fails ↦
      let is : new ≡ read = subst (λ (m : Option (List ℕ)). IsMade m task.output read new) fails.unmade made in
      inr (subst (λ (d : Desk). FailsToRead task old d product verdict) (sym is) fails)
]

-- no read failed before the output was made, where none has failed then
pub unfailed : (made output : Option (List ℕ)) (old read new : Desk) → IsMade made output read new → ¬ (Rose old.read_faults new.read_faults) → ¬ (Rose old.read_faults read.read_faults)
unfailed made output old read new is r = subst (λ (n : ℕ). ¬ (Rose old.read_faults n)) (only_made made output read new is).read_faults r

-- ---- what is so of each end

-- a count of failed reads rose only where the end says so, or stands for that
abbrev ReadsCounted : Task → Desk → Desk → Ending → Type 0
ReadsCounted task old new ending = ((name : List ℕ) × Contains task.inputs name × (ending ≡ ReadFault name)) ⊎ (new.read_faults ≡ old.read_faults) ⊎ task.hides old new ending

abbrev WritesCounted : Scene → Scene → Ending → Type 0
WritesCounted old new ending = ((name : List ℕ) × (ending ≡ WriteFault name)) ⊎ ((new.desk.write_faults ≡ old.desk.write_faults) × (new.faults ≡ old.faults))

record Consequences (task : Task) (old new : Scene) (ending : Ending) : Type 0 where
  stays : Stays task.output old.desk new.desk
  reads : ReadsCounted task old.desk new.desk ending
  writes : WritesCounted old new ending
  taken : task.right old.desk → ¬ (Rose old.desk.read_faults new.desk.read_faults) → ¬ (Rose old.desk.write_faults new.desk.write_faults) → ¬ (Rose old.faults new.faults) → IsDone ending ⊎ (ending ≡ NoMemory)
  absent : (name : List ℕ) → LacksFirst task old.desk name → ¬ (Rose old.desk.read_faults new.desk.read_faults) → ending ≡ Absent name

-- what stays of the files, and which failures of them are told
record FilesTold (task : Task) (old new : Scene) (ending : Ending) : Type 0 where
  stays : Stays task.output old.desk new.desk
  reads : ReadsCounted task old.desk new.desk ending
  write_faults : new.desk.write_faults ≡ old.desk.write_faults

-- they are those of what was read and made, where a failed read is told or hidden by the end
files_told : (task : Task) (old new : Scene) (product : Product) (verdict ending : Ending) → OnlyMade task.output old.desk new.desk ⊎ FailsToRead task old.desk new.desk product verdict
    → (FailsToRead task old.desk new.desk product verdict → ((name : List ℕ) × Contains task.inputs name × (ending ≡ ReadFault name)) ⊎ task.hides old.desk new.desk ending) → FilesTold task old new ending
files_told task old new product verdict ending parts told = elim parts [
  | inl made ↦ record { stays = made.stays; reads = inr (inl made.read_faults); write_faults = made.write_faults }
  | inr fails ↦ record {
    stays = read_stays task.output old.desk new.desk fails.only;
    reads = elim (told fails) [ inl says ↦ inl says | inr hides ↦ inr (inr hides) ];
    write_faults = ap (λ (d : Desk). d.write_faults) fails.only.same;
  }
]

completes_follows : (task : Task) (old new : Scene) (ending : Ending) → IsSound task → ((name : List ℕ) → ending ≢ WriteFault name) → Completes task old new ending → Consequences task old new ending
completes_follows task old new ending sound unbroken whole =
    let files = files_told task old new whole.product ending ending (changed task old.desk whole.read new.desk whole.product ending sound whole.reading whole.made) (λ fails. fails.told) in
    record {
      stays = files.stays;
      reads = files.reads;
      writes = inr (files.write_faults, whole.counted);
      taken = λ right r w o. sound.done old.desk whole.read whole.product ending whole.reading right (unfailed whole.product.made task.output old.desk whole.read new.desk whole.made r) unbroken;
      absent = λ name lacks r. (sound.absent old.desk whole.read whole.product ending name whole.reading lacks (unfailed whole.product.made task.output old.desk whole.read new.desk whole.made r)).0;
    }

print_follows : (task : Task) (old new : Scene) (name : List ℕ) → IsSound task → FailsToPrint task old new → Consequences task old new (WriteFault name)
print_follows task old new name sound cut =
    let files = files_told task old new cut.product cut.verdict (WriteFault name) (changed task old.desk cut.read new.desk cut.product cut.verdict sound cut.reading cut.made) (λ fails. inr (fails.cut_off cut.some name)) in
    record {
      stays = files.stays;
      reads = files.reads;
      writes = inl (name, refl);
      taken = λ right r w o. absurd (o cut.rose);
      absent = λ first lacks r.
          let nothing = sound.absent old.desk cut.read cut.product cut.verdict first cut.reading lacks (unfailed cut.product.made task.output old.desk cut.read new.desk cut.made r) in
          absurd (cut.some (ap (λ (p : Product). p.text) nothing.1));
    }

make_follows : (task : Task) (old new : Scene) (name : List ℕ) → IsSound task → FailsToMake task name old new → Consequences task old new (WriteFault name)
make_follows task old new name sound lost = record {
  stays = name_stays task.output name old.desk new.desk lost.output lost.only;
  reads = inr (inl lost.only.read_faults);
  writes = inl (name, refl);
  taken = λ right r w o. absurd (w lost.failed);
  absent = λ first lacks r. absurd (sound.there old.desk lost.bytes first lost.leaves lacks);
}

reading_follows : (task : Task) (old new : Scene) → IsSound task → StopsReading task old new → Consequences task old new NoMemory
reading_follows task old new sound stops =
    let read : OnlyMade task.output old.desk new.desk ⊎ FailsToRead task old.desk new.desk stops.product NoMemory = elim (sound.changes old.desk new.desk stops.product NoMemory stops.reading) [
      | inl same ↦ inl (subst (OnlyMade task.output old.desk) (sym same) (all_same task.output old.desk))
      | inr fails ↦ inr fails
    ] in
    let files = files_told task old new stops.product NoMemory NoMemory read (λ fails. fails.told) in
    record {
      stays = files.stays;
      reads = files.reads;
      writes = inr (files.write_faults, stops.counted);
      taken = λ right r w o. inr refl;
      absent = λ name lacks r. (sound.absent old.desk new.desk stops.product NoMemory name stops.reading lacks r).0;
    }

begun_follows : (task : Task) (old new : Scene) → IsSound task → StopsBegun task old new → Consequences task old new NoMemory
begun_follows task old new sound stops =
    let made = only_made (Some []) task.output old.desk new.desk stops.emptied in
    record {
      stays = made.stays;
      reads = inr (inl made.read_faults);
      writes = inr (made.write_faults, stops.counted);
      taken = λ right r w o. inr refl;
      absent = λ name lacks r. absurd (sound.there old.desk [] name stops.leaves lacks);
    }

-- the first of the inputs is one of them
first_within : (names others : List (List ℕ)) (name : List ℕ) → names ≡ name ∷ others → Contains names name
first_within names others name is = subst (λ (l : List (List ℕ)). Contains l name) (sym is) (0, omega arith, refl)

printing_follows : (task : Task) (old new : Scene) → IsSound task → StopsPrinting task old new → Consequences task old new NoMemory
printing_follows task old new sound stops =
    let files = files_told task old new stops.product stops.verdict NoMemory (changed task old.desk stops.read new.desk stops.product stops.verdict sound stops.reading stops.made) (λ fails. inr (fails.stopped stops.is_printed)) in
    record {
      stays = files.stays;
      reads = files.reads;
      writes = inr (files.write_faults, stops.counted);
      taken = λ right r w o. inr refl;
      absent = λ name lacks r.
          absurd (none_there old.desk.held lacks.held name lacks.told lacks.none (stops.there name (first_within task.inputs lacks.others name lacks.first)));
    }

memory_follows : (task : Task) (course : Course) (old new : Scene) → IsSound task → WantsMemory course task old new → Consequences task old new NoMemory
memory_follows task WhileReading old new sound wants = reading_follows task old new sound wants
memory_follows task UntilBegun old new sound wants = elim wants [ inl stops ↦ reading_follows task old new sound stops | inr stops ↦ begun_follows task old new sound stops ]
memory_follows task WhilePrinting old new sound wants = elim wants [ inl stops ↦ reading_follows task old new sound stops | inr stops ↦ printing_follows task old new sound stops ]
memory_follows task Streaming old new sound wants = elim wants [ inl stops ↦ reading_follows task old new sound stops | inr stops ↦ printing_follows task old new sound stops ]

follows : (task : Task) (old new : Scene) (ending : Ending) → IsSound task → CommandEffect task old new ending → Consequences task old new ending
follows task old new Done sound effect = completes_follows task old new Done sound (λ name e. cc) effect
follows task old new (StillOpen name numbers) sound effect = completes_follows task old new (StillOpen name numbers) sound (λ name e. cc) effect
follows task old new (Usage lines) sound effect = absurd effect
follows task old new (Absent name) sound effect = completes_follows task old new (Absent name) sound (λ name e. cc) effect
follows task old new (ReadFault name) sound effect = completes_follows task old new (ReadFault name) sound (λ name e. cc) effect
follows task old new (Refused name line cause) sound effect = completes_follows task old new (Refused name line cause) sound (λ name e. cc) effect
follows task old new (RefusedSources lines) sound effect = completes_follows task old new (RefusedSources lines) sound (λ name e. cc) effect
follows task old new (Damaged name offset cause) sound effect = completes_follows task old new (Damaged name offset cause) sound (λ name e. cc) effect
follows task old new (WriteFault name) sound effect = elim effect [ inl cut ↦ print_follows task old new name sound cut.1 | inr lost ↦ make_follows task old new name sound lost ]
follows task old new NoMemory sound effect = memory_follows task task.course old new sound effect

-- ---- the laws

pub taken : (task : Task) (old new : Scene) (ending : Ending) → IsSound task → CommandEffect task old new ending → task.right old.desk
    → ¬ (Rose old.desk.read_faults new.desk.read_faults) → ¬ (Rose old.desk.write_faults new.desk.write_faults) → ¬ (Rose old.faults new.faults) → IsDone ending ⊎ (ending ≡ NoMemory)
taken task old new ending sound effect = (follows task old new ending sound effect).taken

pub absent : (task : Task) (old new : Scene) (ending : Ending) → IsSound task → CommandEffect task old new ending → (name : List ℕ) (others : List (List ℕ)) (held : Held) → task.inputs ≡ name ∷ others
    → old.desk.held ≡ Some held → map.get held name ≡ None → ¬ (Rose old.desk.read_faults new.desk.read_faults) → ending ≡ Absent name
absent task old new ending sound effect name others held first told none r =
    (follows task old new ending sound effect).absent name (record { others = others; held = held; first = first; told = told; none = none }) r

pub reads_counted : (task : Task) (old new : Scene) (ending : Ending) → IsSound task → CommandEffect task old new ending → ReadsCounted task old.desk new.desk ending
reads_counted task old new ending sound effect = (follows task old new ending sound effect).reads

pub writes_counted : (task : Task) (old new : Scene) (ending : Ending) → IsSound task → CommandEffect task old new ending → WritesCounted old new ending
writes_counted task old new ending sound effect = (follows task old new ending sound effect).writes

pub write_rose : (task : Task) (old new : Scene) (name : List ℕ) → CommandEffect task old new (WriteFault name) → Rose old.faults new.faults ⊎ Rose old.desk.write_faults new.desk.write_faults
write_rose task old new name effect = elim effect [ inl cut ↦ inl cut.1.rose | inr lost ↦ inr lost.failed ]

pub others_held : (task : Task) (old new : Scene) (ending : Ending) → IsSound task → CommandEffect task old new ending → (other : List ℕ) → task.output ≢ Some other → found_in new.desk other ≡ found_in old.desk other
others_held task old new ending sound effect = (follows task old new ending sound effect).stays.held

pub left_stays : (task : Task) (old new : Scene) (ending : Ending) → IsSound task → CommandEffect task old new ending → new.desk.left ≡ old.desk.left
left_stays task old new ending sound effect = (follows task old new ending sound effect).stays.left

pub made_stays : (task : Task) (old new : Scene) (ending : Ending) → IsSound task → CommandEffect task old new ending → new.desk.made ≡ old.desk.made
made_stays task old new ending sound effect = (follows task old new ending sound effect).stays.made
