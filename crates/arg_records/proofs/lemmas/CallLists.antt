-- Calls with one more behind them.
use Rattle.std.proofs.Common.{◌≡◌, ℕ, ◌≤◌, List, [], ◌∷◌, ◌++◌, refl}
use Rattle.arg_records.specs.declared.call.Call.{Call}
use Rattle.arg_records.specs.Calls.{NeverFalls, last_stamp}

-- one call more, which isn't before the last
pub NeverFalls-push : (least : ℕ) (calls : List Call) (call : Call) → NeverFalls least calls → last_stamp least calls ≤ call.stamp → NeverFalls least (calls ++ call ∷ [])
NeverFalls-push least [] call h after = (after, tt)
NeverFalls-push least (first ∷ calls) call h after = (h.0, NeverFalls-push first.stamp calls call h.1 after)

pub last_stamp-push : (least : ℕ) (calls : List Call) (call : Call) → last_stamp least (calls ++ call ∷ []) ≡ call.stamp
last_stamp-push least [] call = refl
last_stamp-push least (first ∷ calls) call = last_stamp-push first.stamp calls call
