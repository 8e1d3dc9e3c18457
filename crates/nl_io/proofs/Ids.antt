-- What a file has left after a call.
use Rattle.std.proofs.Common.{◌≡◌, ◌≢◌, ℕ, Option, Some, None, Result, Ok, Err, sym, ap, subst, ◌∙◌}
use Rattle.std.specs.Prelude.{IfOk, OnErr, unwrap_or}
use Rattle.std.specs.FinMap as map
use Rattle.nl_io.specs.Content.{Told, without_front}
use Rattle.nl_io.proofs.lemmas.DeskLaws.{some_told, get-given, get-other}
use Rattle.nl_io.specs.Desk.{Desk, OnlyReadFaults, TakesBytes, SameButLeft}
use Rattle.nl_io.specs.declared.failed.Failed.{Failed}

given_some : (o : Option Told) (content : Told) → o ≡ Some content → o ≢ None
given_some o content e n = cc

pub takes_left : (old new : Desk) (id n : ℕ) → map.get old.left id ≢ None → TakesBytes old id n new
    → map.get new.left id ≡ Some (without_front n (unwrap_or (map.get old.left id) None))
takes_left old new id n reading takes =
    let open_file = some_told (map.get old.left id) reading in
    let moved = takes.taken open_file.0 open_file.1 in
    ap (λ (d : Desk). map.get d.left id) moved ∙ get-given old.left id (without_front n open_file.0)
    ∙ ap (λ (o : Option Told). Some (without_front n (unwrap_or o None))) (sym open_file.1)

pub still_reading : (r : Result ℕ Failed) (old new : Desk) (id : ℕ) → map.get old.left id ≢ None → IfOk r (λ n. TakesBytes old id n new) → OnErr r (OnlyReadFaults old new)
    → map.get new.left id ≢ None
still_reading (Ok n) old new id reading takes err = given_some (map.get new.left id) _ (takes_left old new id n reading takes)
still_reading (Err f) old new id reading takes err = subst (λ (o : Option Told). o ≢ None) (ap (λ (d : Desk). map.get d.left id) (sym err.same)) reading

pub moved_left : (r : Result ℕ Failed) (old new : Desk) (id : ℕ) → map.get old.left id ≢ None → IfOk r (λ n. TakesBytes old id n new)
    → IfOk r (λ n. unwrap_or (map.get new.left id) None ≡ without_front n (unwrap_or (map.get old.left id) None))
moved_left (Ok n) old new id reading takes = ap (λ (o : Option Told). unwrap_or o None) (takes_left old new id n reading takes)
moved_left (Err f) old new id reading takes = tt

pub takes_same : (r : Result ℕ Failed) (old new : Desk) (id : ℕ) → map.get old.left id ≢ None → IfOk r (λ n. TakesBytes old id n new) → OnErr r (OnlyReadFaults old new)
    → SameButLeft id old new
takes_same (Ok n) old new id reading takes err =
    let open_file = some_told (map.get old.left id) reading in
    let moved = takes.taken open_file.0 open_file.1 in
    record {
      held = ap (λ (d : Desk). d.held) moved;
      left = λ other ne. ap (λ (d : Desk). map.get d.left other) moved ∙ get-other old.left id (without_front n open_file.0) other ne;
      made = ap (λ (d : Desk). d.made) moved;
      write_faults = ap (λ (d : Desk). d.write_faults) moved;
    }
takes_same (Err f) old new id reading takes err = record {
  held = ap (λ (d : Desk). d.held) err.same;
  left = λ other ne. ap (λ (d : Desk). map.get d.left other) err.same;
  made = ap (λ (d : Desk). d.made) err.same;
  write_faults = ap (λ (d : Desk). d.write_faults) err.same;
}
