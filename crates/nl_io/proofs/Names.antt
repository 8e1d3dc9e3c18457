-- What the name of a created file holds after a call.
use Rattle.std.proofs.Common.{◌≡◌, ◌≢◌, ℕ, List, [], ◌++◌, Option, Some, None, Result, Ok, Err, refl, sym, ap, subst, ◌∙◌, take}
use Rattle.std.specs.Prelude.{IfOk, OnErr, is_some, option_map, unwrap_or}
use Rattle.std.specs.FinMap as map
use Rattle.nl_io.specs.Content.{Told, with_end}
use Rattle.nl_io.proofs.lemmas.DeskLaws.{held-given, held-other, Puts-made}
use Rattle.nl_io.specs.Desk.{Desk, Held, held_at, held_by, put_by, found_in, OnlyWriteFaults, Puts, SameButHeld}
use Rattle.nl_io.specs.declared.failed.Failed.{Failed}

-- bytes at the end of what a name holds
abbrev with_more : List ℕ → List ℕ → Option Held → Option Held
with_more name bytes held = option_map (λ names. map.insert names name (held_at names name ++ bytes)) held

held_by-more : (old new : Option Held) (title : Told) (bytes : List ℕ) → ((name : List ℕ) → title ≡ Some name → new ≡ with_more name bytes old) → held_by new title ≡ with_end bytes (held_by old title)
held_by-more old new None bytes more = refl
held_by-more None new (Some name) bytes more = ap (option_map (λ (names : Held). held_at names name)) (more name refl)
held_by-more (Some names) new (Some name) bytes more =
    ap (option_map (λ (names : Held). held_at names name)) (more name refl)
    ∙ ap (λ (o : Option (List ℕ)). Some (unwrap_or o [])) (held-given names name (held_at names name ++ bytes))

other_found : (old new : Option Held) (name other bytes : List ℕ) → other ≢ name → new ≡ with_more name bytes old → option_map (λ names. map.get names other) new ≡ option_map (λ names. map.get names other) old
other_found None new name other bytes ne is = ap (option_map (λ (names : Held). map.get names other)) is
other_found (Some names) new name other bytes ne is =
    ap (option_map (λ (names : Held). map.get names other)) is ∙ ap Some (held-other names name (held_at names name ++ bytes) other ne)

still_there : (old new : Option Held) (name bytes : List ℕ) → new ≡ with_more name bytes old → option_map (λ names. map.get names name) new ≢ Some None
still_there None new name bytes is none = let has : None ≡ Some None = sym (ap (option_map (λ (names : Held). map.get names name)) is) ∙ none in cc
still_there (Some names) new name bytes is none =
    let has : Some (Some (held_at names name ++ bytes)) ≡ Some None =
    sym (ap (option_map (λ (names : Held). map.get names name)) is ∙ ap Some (held-given names name (held_at names name ++ bytes))) ∙ none in cc

told_name : (o : Option Told) (name : List ℕ) → o ≢ None → unwrap_or o None ≡ Some name → o ≡ Some (Some name)
told_name None name made is = absurd (made refl)
told_name (Some title) name made is = ap Some is

puts_end : (old new : Desk) (id : ℕ) (bytes : List ℕ) → map.get old.made id ≢ None → Puts old id bytes new → put_by new id ≡ with_end bytes (put_by old id)
puts_end old new id bytes made puts =
    ap (λ (d : Desk). held_by new.held (unwrap_or (map.get d.made id) None)) puts.rest
    ∙ held_by-more old.held new.held (unwrap_or (map.get old.made id) None) bytes (λ name is. ap (λ (d : Desk). d.held) (puts.put name (told_name (map.get old.made id) name made is)))

pub still_made : (r : Result ℕ Failed) (old new : Desk) (id : ℕ) (bytes : List ℕ) → map.get old.made id ≢ None → IfOk r (λ n. Puts old id (take n bytes) new) → OnErr r (OnlyWriteFaults old new)
    → map.get new.made id ≢ None
still_made (Ok n) old new id bytes made puts err = Puts-made old id (take n bytes) new made puts
still_made (Err f) old new id bytes made puts err = subst (λ (d : Desk). map.get d.made id ≢ None) (sym err.same) made

pub taken_put : (r : Result ℕ Failed) (old new : Desk) (id : ℕ) (bytes : List ℕ) → map.get old.made id ≢ None → IfOk r (λ n. Puts old id (take n bytes) new)
    → IfOk r (λ n. put_by new id ≡ with_end (take n bytes) (put_by old id))
taken_put (Ok n) old new id bytes made puts = puts_end old new id (take n bytes) made puts
taken_put (Err f) old new id bytes made puts = tt

pub kept_put : (r : Result ℕ Failed) (old new : Desk) (id : ℕ) → OnErr r (OnlyWriteFaults old new) → OnErr r (put_by new id ≡ put_by old id)
kept_put (Ok n) old new id err = tt
kept_put (Err f) old new id err = ap (λ (d : Desk). put_by d id) err.same

pub puts_same : (r : Result ℕ Failed) (old new : Desk) (id : ℕ) (bytes : List ℕ) → IfOk r (λ n. Puts old id (take n bytes) new) → OnErr r (OnlyWriteFaults old new)
    → SameButHeld id old new
puts_same (Ok n) old new id bytes puts err = record {
  told = puts.told;
  there = λ name is there. still_there old.held new.held name (take n bytes) (ap (λ (d : Desk). d.held) (puts.put name is));
  held = λ name other is ne. other_found old.held new.held name other (take n bytes) ne (ap (λ (d : Desk). d.held) (puts.put name is));
  left = ap (λ (d : Desk). d.left) puts.rest;
  made = ap (λ (d : Desk). d.made) puts.rest;
  read_faults = ap (λ (d : Desk). d.read_faults) puts.rest;
}
puts_same (Err f) old new id bytes puts err = record {
  told = ap (λ (d : Desk). is_some d.held) err.same;
  there = λ name is there. subst (λ (d : Desk). found_in d name ≢ Some None) (sym err.same) there;
  held = λ name other is ne. ap (λ (d : Desk). found_in d other) err.same;
  left = ap (λ (d : Desk). d.left) err.same;
  made = ap (λ (d : Desk). d.made) err.same;
  read_faults = ap (λ (d : Desk). d.read_faults) err.same;
}
