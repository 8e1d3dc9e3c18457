-- Which files are open after a call, and what a written name holds.
use Rattle.std.proofs.Common.{◌≡◌, ◌≢◌, ℕ, ◌≤◌, Bool, true, false, cond, List, [], Option, Some, None, refl, sym, ap, subst, ◌∙◌, arith}
use Rattle.std.proofs.lemmas.Bool.{false_from_ne_true}
use Rattle.std.specs.Prelude.{IfSome, is_some, option_map, unwrap_or}
use Rattle.std.specs.declared.cmp.Ordering.{Ordering}
use Rattle.std.specs.Ordering.{nat_cmp, eq_by_cmp}
use Rattle.std.specs.Cmp.{nat_cmp_total, eq_by_cmp_equiv, Equal-is}
use Rattle.std.specs.Cmp.Lexicographic.{nat_list_cmp_total}
use Rattle.std.specs.FinMap as map
use Rattle.nl_io.specs.Content.{Told, with_end}
use Rattle.nl_io.specs.Desk.{Desk, Held, ById, IsReading, OnlyReadFaults, Opens, Leaves, Creates, Puts, Finishes, held_by, put_by}
use Rattle.nl_io.specs.Desk.{found_in, SameButLeft, SameButHeld, OnlyName}

-- what an id has after it was given a content
pub get-given : (m : ById) (id : ℕ) (content : Told) → map.get (map.insert m id content) id ≡ Some content
get-given m id content = map.get-insert nat_cmp_total m id content id
    ∙ ap (λ b. cond b (Some content) (map.get m id)) ((eq_by_cmp_equiv nat_cmp_total).refl id)

-- keys that an order doesn't tell apart are one
pub same_key : {K : Type 0} {R : K → K → Ordering} → map.IsAntisymmetric R → (a b : K) → eq_by_cmp R a b ≡ true → a ≡ b
same_key {R = R} same a b e = same a b ((Equal-is (R a b)).0 e)

not_both : (b : Bool) → b ≡ true → b ≡ false → ⊥
not_both b t f = cc

apart : {K : Type 0} {R : K → K → Ordering} → map.IsAntisymmetric R → (a b : K) → a ≢ b → eq_by_cmp R a b ≡ false
apart {R = R} same a b ne = false_from_ne_true (eq_by_cmp R a b) (λ e. ne (same_key same a b e))

-- what every other id has
pub get-other : (m : ById) (id : ℕ) (content : Told) (other : ℕ) → other ≢ id
    → map.get (map.insert m id content) other ≡ map.get m other
get-other m id content other ne = map.get-insert nat_cmp_total m id content other
    ∙ ap (λ b. cond b (Some content) (map.get m other)) (apart map.nat_cmp-IsAntisymmetric other id ne)

-- what a name holds after bytes were put there, and what every other name holds
pub held-given : (m : Held) (name bytes : List ℕ) → map.get (map.insert m name bytes) name ≡ Some bytes
held-given m name bytes = map.get-insert nat_list_cmp_total m name bytes name
    ∙ ap (λ b. cond b (Some bytes) (map.get m name)) ((eq_by_cmp_equiv nat_list_cmp_total).refl name)

pub held-other : (m : Held) (name bytes other : List ℕ) → other ≢ name
    → map.get (map.insert m name bytes) other ≡ map.get m other
held-other m name bytes other ne =
    map.get-insert nat_list_cmp_total m name bytes other
    ∙ ap (λ b. cond b (Some bytes) (map.get m other)) (apart (map.slice_cmp-IsAntisymmetric map.nat_cmp-IsAntisymmetric) other name ne)

-- what each id has after one of them was given up
get-removed : (m : ById) (id other : ℕ) → map.get m id ≡ None → (b : Bool) → eq_by_cmp nat_cmp other id ≡ b → (n : ById)
    → (other ≢ id → map.get n other ≡ map.get m other) → map.get (map.remove n id) other ≡ map.get m other
get-removed m id other none true e n same =
    let tied : other ≡ id = same_key map.nat_cmp-IsAntisymmetric other id e in
    map.get-remove nat_cmp_total n id other ∙ ap (λ b. cond b None (map.get n other)) e ∙ sym (ap (map.get m) tied ∙ none)
get-removed m id other none false e n same =
    map.get-remove nat_cmp_total n id other ∙ ap (λ b. cond b None (map.get n other)) e
    ∙ same (λ is. not_both (eq_by_cmp nat_cmp other id) (ap (λ x. eq_by_cmp nat_cmp x id) is ∙ (eq_by_cmp_equiv nat_cmp_total).refl id) e)

is_given : (table : ById) (id : ℕ) (content : Told) → map.get (map.insert table id content) id ≢ None
is_given table id content none =
    let has : Some content ≡ None = sym (get-given table id content) ∙ none in cc

-- an open file and what is told of it
pub some_told : (o : Option Told) → o ≢ None → (content : Told) × (o ≡ Some content)
some_told None has = absurd (has refl)
some_told (Some content) has = (content, refl)

-- a name that was opened is being read
pub Opens-reading : (old : Desk) (name : List ℕ) (id : ℕ) (new : Desk) → Opens old name id new
    → map.get new.left id ≢ None
Opens-reading old name id new opens =
    subst (λ (desk : Desk). map.get desk.left id ≢ None) (sym opens.opened) (is_given old.left id opens.content)

-- a name that was created isn't finished
pub Creates-made : (old : Desk) (name : List ℕ) (id : ℕ) (new : Desk) → Creates old name id new
    → map.get new.made id ≢ None
Creates-made old name id new creates =
    subst (λ (desk : Desk). map.get desk.made id ≢ None) (sym creates.created) (is_given old.made id creates.title)

-- a file still isn't finished after bytes were put
pub Puts-made : (old : Desk) (id : ℕ) (bytes : List ℕ) (new : Desk) → map.get old.made id ≢ None → Puts old id bytes new
    → map.get new.made id ≢ None
Puts-made old id bytes new made puts = subst (λ (desk : Desk). map.get desk.made id ≢ None) (sym puts.rest) made

-- nor after it was written to by a sink
pub SameButHeld-made : (old new : Desk) (id : ℕ) → map.get old.made id ≢ None → SameButHeld id old new
    → map.get new.made id ≢ None
SameButHeld-made old new id made same = subst (λ (table : ById). map.get table id ≢ None) (sym same.made) made

-- what it has left is what was opened
pub Opens-content : (old : Desk) (name : List ℕ) (id : ℕ) (new : Desk) → (opened : Opens old name id new)
    → IsReading new id opened.content
Opens-content old name id new opened =
    ap (λ (d : Desk). map.get d.left id) opened.opened ∙ get-given old.left id opened.content

-- A file was opened, some of it was read, and it was given up: all is as it was but for the count of read faults.
pub visited : (old : Desk) (name : List ℕ) (id : ℕ) (opened read new : Desk) → Opens old name id opened
    → SameButLeft id opened read
    → opened.read_faults ≤ read.read_faults → Leaves read id new
    → OnlyReadFaults old new
visited old name id opened read new opens same count leaves =
    let held : new.held ≡ old.held = ap (λ (d : Desk). d.held) leaves ∙ same.held ∙ ap (λ (d : Desk). d.held) opens.opened in
    let made : new.made ≡ old.made = ap (λ (d : Desk). d.made) leaves ∙ same.made ∙ ap (λ (d : Desk). d.made) opens.opened in
    let write_faults : new.write_faults ≡ old.write_faults = ap (λ (d : Desk). d.write_faults) leaves ∙ same.write_faults
    ∙ ap (λ (d : Desk). d.write_faults) opens.opened in
    let other_left : (other : ℕ) → other ≢ id → map.get read.left other ≡ map.get old.left other =
    λ other ne. same.left other ne ∙ ap (λ (d : Desk). map.get d.left other) opens.opened ∙ get-other old.left id opens.content other ne in
    let left : new.left ≡ old.left = ap (λ (d : Desk). d.left) leaves
    ∙ map.same_map nat_cmp_total map.nat_cmp-IsAntisymmetric (map.remove read.left id) old.left (λ other. get-removed old.left id other opens.unused.unread (eq_by_cmp nat_cmp other id) refl read.left (other_left other)) in
    let faults : new.read_faults ≡ read.read_faults = ap (λ (d : Desk). d.read_faults) leaves in
    record {
      same =
          λ i. record { held = held i; left = left i; made = made i; read_faults = new.read_faults; write_faults = write_faults i };
      count = omega (arith, ap (λ (d : Desk). d.read_faults) opens.opened, count, faults);
    }

-- where no call failed in between, all is as it was
pub visited-whole : (old : Desk) (name : List ℕ) (id : ℕ) (opened read new : Desk) → Opens old name id opened
    → SameButLeft id opened read
    → read.read_faults ≡ opened.read_faults → Leaves read id new
    → new ≡ old
visited-whole old name id opened read new opens same faults leaves =
    let only : OnlyReadFaults old new = visited old name id opened read new opens same (omega (arith, faults)) leaves in
    let unrisen : new.read_faults ≡ old.read_faults = ap (λ (d : Desk). d.read_faults) leaves ∙ faults
    ∙ ap (λ (d : Desk). d.read_faults) opens.opened in
    only.same ∙ ap (λ (n : ℕ). record old { read_faults = n }) unrisen

is_some-option_map : {A B : Type 0} (f : A → B) (o : Option A) → is_some (option_map f o) ≡ is_some o
is_some-option_map f None = refl
is_some-option_map f (Some x) = refl

option_map-none : {A B : Type 0} (f : A → B) (o : Option A) → is_some o ≡ false → option_map f o ≡ None
option_map-none f None e = refl
option_map-none f (Some x) e = absurd cc

-- what every other name holds after one was created and written to
other_held : (held : Option Held) (title : Option (List ℕ)) (name other : List ℕ) (created put : Desk) (id : ℕ)
    → IfSome held (λ _. title ≡ Some name) → other ≢ name
    → created.held ≡ option_map (λ names. map.insert names name []) held → map.get created.made id ≡ Some title
    → SameButHeld id created put
    → found_in put other ≡ option_map (λ names. map.get names other) held
other_held None title name other created put id named ne is made same =
    option_map-none (λ names. map.get names other) put.held (same.told ∙ ap is_some is)
other_held (Some names) title name other created put id named ne is made same =
    same.held name other (made ∙ ap Some named) ne ∙ ap (option_map (λ (names : Held). map.get names other)) is
    ∙ ap Some (held-other names name [] other ne)

-- A name was created, it was written to, and it was finished: all is as it was but for what it holds and the count of
-- write faults.
pub written : (old : Desk) (name : List ℕ) (id : ℕ) (created put new : Desk) → Creates old name id created
    → SameButHeld id created put
    → created.write_faults ≤ put.write_faults → Finishes put id new
    → OnlyName name old new
written old name id created put new creates same count finishes =
    let held : new.held ≡ put.held = ap (λ (d : Desk). d.held) finishes.finished in
    let named : created.held ≡ option_map (λ names. map.insert names name []) old.held = ap (λ (d : Desk). d.held) creates.created in
    let given : map.get created.made id ≡ Some creates.title = ap (λ (d : Desk). map.get d.made id) creates.created
    ∙ get-given old.made id creates.title in
    let other_made : (other : ℕ) → other ≢ id → map.get put.made other ≡ map.get old.made other =
    λ other ne. ap (λ (made : ById). map.get made other) same.made ∙ ap (λ (d : Desk). map.get d.made other) creates.created
    ∙ get-other old.made id creates.title other ne in
    record {
      told =
          ap is_some held ∙ same.told ∙ ap is_some named ∙ is_some-option_map (λ names. map.insert names name []) old.held;
      held = λ other ne. ap (option_map (λ (names : Held). map.get names other)) held
          ∙ other_held old.held creates.title name other created put id creates.named ne named given same;
      left = ap (λ (d : Desk). d.left) finishes.finished ∙ same.left ∙ ap (λ (d : Desk). d.left) creates.created;
      made = ap (λ (d : Desk). d.made) finishes.finished
          ∙ map.same_map nat_cmp_total map.nat_cmp-IsAntisymmetric (map.remove put.made id) old.made (λ other. get-removed old.made id other creates.unused.unmade (eq_by_cmp nat_cmp other id) refl put.made (other_made other));
      read_faults = ap (λ (d : Desk). d.read_faults) finishes.finished ∙ same.read_faults
          ∙ ap (λ (d : Desk). d.read_faults) creates.created;
      count = omega (arith, ap (λ (d : Desk). d.write_faults) creates.created, count, finishes.count);
    }

holds_found : (o : Option (List ℕ)) (bytes : List ℕ) → Some o ≢ Some None → Some (unwrap_or o []) ≡ Some bytes
    → Some o ≡ Some (Some bytes)
holds_found None bytes there is = absurd (there refl)
holds_found (Some found) bytes there is = ap Some is

is_there : (o : Option (Option (List ℕ))) → o ≡ Some (Some []) → o ≢ Some None
is_there o is none = let has : Some (Some []) ≡ Some None = sym is ∙ none in cc

held_by-empty : (held : Option Held) (name : List ℕ) → option_map (λ names. map.get names name) held ≡ Some (Some [])
    → held_by held (Some name) ≡ Some []
held_by-empty None name is = absurd cc
held_by-empty (Some names) name is = ap (λ (o : Option (Option (List ℕ))). Some (unwrap_or (unwrap_or o None) [])) is

-- a name that is there holds what is told of it
holds_bytes : (held : Option Held) (name bytes : List ℕ) → option_map (λ names. map.get names name) held ≢ Some None
    → held_by held (Some name) ≡ Some bytes → option_map (λ names. map.get names name) held ≡ Some (Some bytes)
holds_bytes None name bytes there is = absurd cc
holds_bytes (Some names) name bytes there is = holds_found (map.get names name) bytes there is

-- what the name holds afterwards, where that is told
put_held : (held : Option Held) (title : Option (List ℕ)) (name bytes : List ℕ) (created put : Desk) (id : ℕ)
    → IfSome held (λ _. title ≡ Some name)
    → created.held ≡ option_map (λ names. map.insert names name []) held → map.get created.made id ≡ Some title
    → SameButHeld id created put → put_by put id ≡ with_end bytes (put_by created id)
    → IfSome held (λ _. found_in put name ≡ Some (Some bytes))
put_held None title name bytes created put id named is made same more = tt
put_held (Some names) title name bytes created put id named is made same more =
    let titled : map.get created.made id ≡ Some (Some name) = made ∙ ap Some named in
    let empty : found_in created name ≡ Some (Some []) = ap (option_map (λ (names : Held). map.get names name)) is
    ∙ ap Some (held-given names name []) in
    let begun : put_by created id ≡ Some [] = ap (λ (o : Option Told). held_by created.held (unwrap_or o None)) titled
    ∙ held_by-empty created.held name empty in
    let by_name : held_by put.held (Some name) ≡ put_by put id = sym (ap (λ (table : ById). held_by put.held (unwrap_or (map.get table id) None)) same.made ∙ ap (λ (o : Option Told). held_by put.held (unwrap_or o None)) titled) in
    holds_bytes put.held name bytes (same.there name titled (is_there (found_in created name) empty)) (by_name ∙ more ∙ ap (with_end bytes) begun)

-- A name was created, it was written to, and it was finished: it holds what was written.
pub written-holds : (old : Desk) (name bytes : List ℕ) (id : ℕ) (created put new : Desk) → Creates old name id created
    → SameButHeld id created put → put_by put id ≡ with_end bytes (put_by created id) → Finishes put id new
    → IfSome old.held (λ _. found_in new name ≡ Some (Some bytes))
written-holds old name bytes id created put new creates same more finishes =
    let held : new.held ≡ put.held = ap (λ (d : Desk). d.held) finishes.finished in
    let named : created.held ≡ option_map (λ names. map.insert names name []) old.held = ap (λ (d : Desk). d.held) creates.created in
    let given : map.get created.made id ≡ Some creates.title = ap (λ (d : Desk). map.get d.made id) creates.created
    ∙ get-given old.made id creates.title in
    subst (λ (o : Option Held). IfSome old.held (λ _. option_map (λ names. map.get names name) o ≡ Some (Some bytes))) (sym held) (put_held old.held creates.title name bytes created put id creates.named named given same more)
