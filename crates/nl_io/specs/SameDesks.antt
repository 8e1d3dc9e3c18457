-- What stays the same over one call on a file stays the same over several.
use Rattle.std.proofs.Common.{◌≡◌, ℕ, List, Some, refl, sym, ap, ◌∙◌}
use Rattle.std.specs.FinMap as map
use Rattle.nl_io.specs.Desk.{Desk, ById, SameButLeft, SameButHeld}

pub SameButLeft-same : (id : ℕ) (a : Desk) → SameButLeft id a a
SameButLeft-same id a = record { held = refl; left = λ other ne. refl; made = refl; write_faults = refl }

pub SameButLeft-then : (i j : ℕ) (a b c : Desk) → i ≡ j → SameButLeft i a b → SameButLeft j b c → SameButLeft i a c
SameButLeft-then i j a b c same first second = record {
  held = second.held ∙ first.held;
  left = λ other ne. second.left other (λ is. ne (is ∙ sym same)) ∙ first.left other ne;
  made = second.made ∙ first.made;
  write_faults = second.write_faults ∙ first.write_faults;
}

pub SameButHeld-same : (id : ℕ) (a : Desk) → SameButHeld id a a
SameButHeld-same id a = record {
  told = refl;
  there = λ name is there. there;
  held = λ name other is ne. refl;
  left = refl;
  made = refl;
  read_faults = refl;
}

still_named : (i j : ℕ) (a b : Desk) (name : List ℕ) → i ≡ j → b.made ≡ a.made → map.get a.made i ≡ Some (Some name)
    → map.get b.made j ≡ Some (Some name)
still_named i j a b name same made is =
    ap (λ (table : ById). map.get table j) made ∙ sym (ap (map.get a.made) same) ∙ is

pub SameButHeld-then : (i j : ℕ) (a b c : Desk) → i ≡ j → SameButHeld i a b → SameButHeld j b c → SameButHeld i a c
SameButHeld-then i j a b c same first second = record {
  told = second.told ∙ first.told;
  there = λ name is there. second.there name (still_named i j a b name same first.made is) (first.there name is there);
  held =
      λ name other is ne. second.held name other (still_named i j a b name same first.made is) ne ∙ first.held name other is ne;
  left = second.left ∙ first.left;
  made = second.made ∙ first.made;
  read_faults = second.read_faults ∙ first.read_faults;
}
