-- Texts that are appended one after the other.
use Rattle.std.proofs.Common.{◌≡◌, ℕ, List, ◌++◌, append_assoc, ap, ◌∙◌, Result, Ok, Err, OnOk}
use Rattle.std.specs.Prelude.{if◌then◌else◌}
use Rattle.std.specs.Result.{is_ok}

-- a line's parts, where each list is the one before with its parts appended
pub joined : (old seconds space file number name bracket origin writer close text end with_time with_origin with_text new : List ℕ) → origin ≡ file ++ number ++ name ++ bracket → with_time ≡ old ++ (seconds ++ space) → with_origin ≡ with_time ++ (origin ++ writer ++ close) → with_text ≡ with_origin ++ text → new ≡ with_text ++ end → new ≡ old ++ (seconds ++ (space ++ file) ++ number ++ name ++ (bracket ++ writer) ++ close ++ text ++ end)
joined old seconds space file number name bracket origin writer close text end with_time with_origin with_text new o a b c d = rw (d, c, b, a, o) (simp append_assoc)

-- a time's parts, with what stands behind them
pub joined_time : (old seconds part space with_seconds new : List ℕ) → with_seconds ≡ old ++ seconds → new ≡ with_seconds ++ (part ++ space) → new ≡ old ++ (seconds ++ part ++ space)
joined_time old seconds part space with_seconds new a b = rw (b, a) (simp append_assoc)

-- bytes that stand behind others where there was memory for them
pub extended : {T E : Type 0} (r : Result T E) (old bytes text new : List ℕ) → new ≡ (if is_ok r then old ++ bytes else old) → bytes ≡ text → OnOk r (new ≡ old ++ text)
extended (Ok x) old bytes text new is same = is ∙ ap (λ (b : List ℕ). old ++ b) same
extended (Err e) old bytes text new is same = tt
