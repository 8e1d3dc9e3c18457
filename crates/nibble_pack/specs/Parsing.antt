-- Reading bytes from the front: they give a value, with the bytes behind it, or they break by a cause.
use Rattle.std.specs.Prelude.{◌≡◌, ◌⊎◌, ℕ, zero, suc, Bool, List, [], ◌∷◌, ◌++◌, length, take, drop, nat_eq, nat_le, if◌then◌else◌, Result, Ok, Err}
use Rattle.nibble_pack.specs.Bytes.{number_of_bytes}

abbrev pub Parse : Type 0 → Type 0 → Type 0
Parse Cause A = Result (A × List ℕ) Cause

-- what follows from what was read, unless that breaks
infixl 10 ◌>>=◌
abbrev pub ◌>>=◌ : {A B Cause : Type 0} → Result A Cause → (A → Result B Cause) → Result B Cause
(Ok x) >>= next = next x
(Err cause) >>= next = Err cause

-- this, unless the test fails, which is the cause
abbrev pub provided : {A Cause : Type 0} → Bool → Cause → A → Result A Cause
provided test cause x = if test then Ok x else Err cause

-- the same, with its cause told as another
abbrev pub caused_by : {A E Cause : Type 0} → (E → Cause) → Result A E → Result A Cause
caused_by as_cause (Ok x) = Ok x
caused_by as_cause (Err cause) = Err (as_cause cause)

-- a byte; where there is none, that is the cause
abbrev pub first_byte : {Cause : Type 0} → Cause → List ℕ → Parse Cause ℕ
first_byte cause [] = Err cause
first_byte cause (byte ∷ bytes) = Ok (byte, bytes)

-- so many bytes; where there are fewer, that is the cause
abbrev pub so_many : {Cause : Type 0} → ℕ → Cause → List ℕ → Parse Cause (List ℕ)
so_many count cause bytes = provided (nat_le count (length bytes)) cause (take count bytes, drop count bytes)

-- a number of so many bytes, the low one first
abbrev pub low_first : {Cause : Type 0} → ℕ → Cause → List ℕ → Parse Cause ℕ
low_first count cause bytes = so_many count cause bytes >>= (λ front. Ok (number_of_bytes front.0, front.1))

-- these bytes; the causes are that another byte stands there, and that there are fewer
abbrev pub these_bytes : {Cause : Type 0} → Cause → Cause → List ℕ → List ℕ → Parse Cause (List ℕ)
these_bytes other cause [] bytes = Ok ([], bytes)
these_bytes other cause (letter ∷ letters) bytes = do
  byte ← first_byte cause bytes
  same ← provided (nat_eq byte.0 letter) other byte
  behind ← these_bytes other cause letters same.1
  Ok (letter ∷ behind.0, behind.1)

-- so many things, one behind another, each read by those that stand before it
abbrev pub so_many_times : {A Cause : Type 0} → (List A → List ℕ → Parse Cause A) → List A → ℕ → List ℕ
    → Parse Cause (List A)
so_many_times one before zero bytes = Ok ([], bytes)
so_many_times one before (suc count) bytes = do
  found ← one before bytes
  others ← so_many_times one (before ++ found.0 ∷ []) count found.1
  Ok (found.0 ∷ others.0, others.1)

-- one thing behind another, a thing for each item, by its mark; that there are fewer marks than items is the cause
abbrev pub each_of : {T M A Cause : Type 0} → Cause → (T → M → List ℕ → Parse Cause A) → List T → List M → List ℕ
    → Parse Cause (List A)
each_of few one [] marks bytes = Ok ([], bytes)
each_of few one (item ∷ items) [] bytes = Err few
each_of few one (item ∷ items) (mark ∷ marks) bytes = do
  found ← one item mark bytes
  others ← each_of few one items marks found.1
  Ok (found.0 ∷ others.0, others.1)

-- ---- where bytes end

-- what bytes give where more stand behind them: the same, unless they are cut off
abbrev pub IsSameBefore : {A Cause : Type 0} → Cause → List ℕ → Parse Cause A → Parse Cause A → Type 0
IsSameBefore cut more (Ok found) whole = whole ≡ Ok (found.0, found.1 ++ more)
IsSameBefore cut more (Err cause) whole = (cause ≡ cut) ⊎ (whole ≡ Err cause)

-- more bytes behind change nothing, unless those that are there are cut off
abbrev pub IsSteady : {A Cause : Type 0} → Cause → (List ℕ → Parse Cause A) → Type 0
IsSteady cut read = (bytes more : List ℕ) → IsSameBefore cut more (read bytes) (read (bytes ++ more))
