-- Formats: which bytes spell a thing, and the reader that reads it.
use Rattle.std.proofs.Common.{◌≡◌, ◌⊎◌, inl, inr, ℕ, zero, suc, ◌<◌, ◌≤◌, ◌^◌, Bool, true, false, List, [], ◌∷◌, ◌++◌, length, Result, Ok, Err, refl, sym, ap, subst, ◌∙◌, append_assoc, append-nil, arith}
use Rattle.std.specs.Prelude.{nat_eq, if◌then◌else◌}
use Rattle.std.specs.Hash.{le_bytes}
use Rattle.std.proofs.lemmas.Bool.{eqb-true, eq-eqb}
use Rattle.std.proofs.lemmas.List.{take_at, append_cancel_right}
use Rattle.std.proofs.lemmas.List.Elements.{All-take}
use Rattle.nibble_pack.specs.Bytes.{AreBytes, back_bytes}
use Rattle.nibble_pack.specs.Parsing.{Parse, ◌>>=◌, provided, caused_by, first_byte, so_many, low_first, these_bytes, so_many_times, each_of, IsSteady}
use Rattle.nibble_pack.proofs.lemmas.Parsing.{found, given, so_many_again, so_many_taken}
use Rattle.nibble_pack.proofs.lemmas.Steady.{steady_done, steady_broken, steady_then, steady_caused, steady_byte, steady_many, steady_number, number_again, number_taken, front_is_cut}

-- the bytes begin with a spelling of the thing, and this is behind it
abbrev pub BeginWith : {A : Type 0} → (A → List ℕ → Type 0) → List ℕ → A → List ℕ → Type 0
BeginWith Spells bytes x rest = (front : List ℕ) × (bytes ≡ front ++ rest) × Spells x front

-- The reader reads what bytes spell: more bytes behind change nothing, what is spelled is read again, and what is read
-- was spelled.
pub record IsFormat {A Cause : Type 0} (cut : Cause) (Spells : A → List ℕ → Type 0) (read : List ℕ → Parse Cause A) : Type 0 where
  pub steady : IsSteady cut read
  pub again : (x : A) (front rest : List ℕ) → Spells x front → read (front ++ rest) ≡ Ok (x, rest)
  pub taken : (bytes : List ℕ) (x : A) (rest : List ℕ) → AreBytes bytes → read bytes ≡ Ok (x, rest) → BeginWith Spells bytes x rest

-- bytes in front of others
pub front_bytes : (front back : List ℕ) → AreBytes (front ++ back) → AreBytes front
front_bytes front back small = subst AreBytes (take_at front back (length front) refl) (All-take (λ (byte : ℕ). byte < 256) (length front) (front ++ back) small)

-- a cause that was told as another is none
pub uncaused : {A E F : Type 0} (as_cause : E → F) (read : Result A E) (x : A) → caused_by as_cause read ≡ Ok x → read ≡ Ok x
uncaused as_cause (Ok y) x e = let same : y ≡ x = cc in ap Ok same
uncaused as_cause (Err cause) x e = absurd cc

-- ---- one thing after another

-- the bytes spell one thing, and behind it the whole with it
abbrev pub Joined : {A B : Type 0} → (A → List ℕ → Type 0) → (A → B → List ℕ → Type 0) → B → List ℕ → Type 0
Joined {A} First Second y bytes = (x : A) × (front : List ℕ) × (back : List ℕ) × (bytes ≡ front ++ back) × First x front × Second x y back

pub then_format : {A B Cause : Type 0} {cut : Cause} {First : A → List ℕ → Type 0} {Second : A → B → List ℕ → Type 0} {read : List ℕ → Parse Cause A} {next : A → List ℕ → Parse Cause B}
    → IsFormat cut First read → ((x : A) → IsFormat cut (Second x) (next x)) → IsFormat cut (Joined First Second) (λ bytes. read bytes >>= (λ found. next found.0 found.1))
then_format {A} {B} {Cause} {cut} {First} {Second} {read} {next} first second = record {
  steady = steady_then cut read (λ found. next found.0 found.1) first.steady (λ x. (second x).steady);
  again = λ y bytes rest spelled.
      let (x, front, back, joined, here, behind) = spelled in
      ap (λ (b : List ℕ). read (b ++ rest) >>= (λ found. next found.0 found.1)) joined
      ∙ ap (λ (b : List ℕ). read b >>= (λ found. next found.0 found.1)) (append_assoc front back rest)
      ∙ ap (λ (r : Parse Cause A). r >>= (λ found. next found.0 found.1)) (first.again x front (back ++ rest) here)
      ∙ (second x).again y back rest behind;
  taken = λ bytes y rest small e.
      let one = found (read bytes) (λ found. next found.0 found.1) (y, rest) e in
      let here = first.taken bytes one.x.0 one.x.1 small one.first in
      let behind = (second one.x.0).taken one.x.1 y rest (back_bytes bytes here.0 one.x.1 here.1 small) one.second in
      (here.0 ++ behind.0, here.1 ∙ ap (λ (b : List ℕ). here.0 ++ b) behind.1 ∙ sym (append_assoc here.0 behind.0 rest), (one.x.0, here.0, behind.0, refl, here.2, behind.2));
}

-- ---- more that follows from a format

module _ {A Cause : Type 0} {cut : Cause} {Spells : A → List ℕ → Type 0} {read : List ℕ → Parse Cause A} (format : IsFormat cut Spells read) where
  -- the same bytes begin with one thing, and one rest is behind it
  pub one_reading : (x y : A) (front other rest more : List ℕ) → Spells x front → Spells y other → front ++ rest ≡ other ++ more → (x ≡ y) × (rest ≡ more)
  one_reading x y front other rest more first second e =
      let same : (x, rest) ≡ (y, more) = (given true cut (x, rest) (y, more) (sym (format.again x front rest first) ∙ ap read e ∙ format.again y other more second)).1 in
      (ap (λ (p : A × List ℕ). p.0) same, ap (λ (p : A × List ℕ). p.1) same)

  -- by one spelling
  pub one_spelling : (x y : A) (front other rest more : List ℕ) → Spells x front → Spells y other → front ++ rest ≡ other ++ more → (x ≡ y) × (front ≡ other)
  one_spelling x y front other rest more first second e =
      let read = one_reading x y front other rest more first second e in
      (read.0, append_cancel_right front other rest (e ∙ ap (λ (r : List ℕ). other ++ r) (sym read.1)))

  -- each proper front of a spelling is cut off
  pub front_of_spelling_is_cut : (front more : List ℕ) (x : A) → Spells x (front ++ more) → 1 ≤ length more → read front ≡ Err cut
  front_of_spelling_is_cut front more x whole some =
      front_is_cut cut read front more x [] format.steady (ap read (sym (append-nil (front ++ more))) ∙ format.again x (front ++ more) [] whole) (omega (arith, some))

  -- bytes that begin with a spelling don't break
  pub spelling_not_broken : (bytes : List ℕ) (x : A) (rest : List ℕ) (cause : Cause) → BeginWith Spells bytes x rest → read bytes ≡ Err cause → ⊥
  spelling_not_broken bytes x rest cause (front, joined, spelled) broken =
      let clash : ◌≡◌ {A = Parse Cause A} (Ok (x, rest)) (Err cause) = sym (format.again x front rest spelled) ∙ ap read (sym joined) ∙ broken in cc

-- ---- the same format, said otherwise

-- another relation that says the same of bytes
pub respelled : {A Cause : Type 0} {cut : Cause} {First Second : A → List ℕ → Type 0} {read : List ℕ → Parse Cause A}
    → IsFormat cut First read → ((x : A) (front : List ℕ) → AreBytes front → First x front → Second x front) → ((x : A) (front : List ℕ) → Second x front → First x front) → IsFormat cut Second read
respelled first to from = record {
  steady = first.steady;
  again = λ x front rest spelled. first.again x front rest (from x front spelled);
  taken = λ bytes x rest small e.
      let (front, joined, spelled) = first.taken bytes x rest small e in
      (front, joined, to x front (front_bytes front rest (subst AreBytes joined small)) spelled);
}

-- another reader that reads the same
pub same_reader : {A Cause : Type 0} {cut : Cause} {Spells : A → List ℕ → Type 0} {read other : List ℕ → Parse Cause A}
    → IsFormat cut Spells read → ((bytes : List ℕ) → read bytes ≡ other bytes) → IsFormat cut Spells other
same_reader {cut = cut} {Spells = Spells} format same = subst (IsFormat cut Spells) (λ t bytes. same bytes t) format

-- a cause is told as another
pub caused_format : {A E Cause : Type 0} {cut : E} {Spells : A → List ℕ → Type 0} {read : List ℕ → Parse E A} (as_cause : E → Cause)
    → IsFormat cut Spells read → IsFormat (as_cause cut) Spells (λ bytes. caused_by as_cause (read bytes))
caused_format {cut = cut} {read = read} as_cause format = record {
  steady = steady_caused cut as_cause read format.steady;
  again = λ x front rest spelled. ap (caused_by as_cause) (format.again x front rest spelled);
  taken = λ bytes x rest small e. format.taken bytes x rest small (uncaused as_cause (read bytes) (x, rest) e);
}

-- ---- steps that take no bytes

pub done_format : {A Cause : Type 0} {cut : Cause} (x : A) → IsFormat cut (λ y front. (x ≡ y) × (front ≡ [])) (λ bytes. Ok (x, bytes))
done_format {cut = cut} x = record {
  steady = steady_done cut x;
  again = λ y front rest (is, none). λ t. Ok (is t, none t ++ rest);
  taken = λ bytes y rest small e.
      let same = (given true cut (x, bytes) (y, rest) e).1 in
      ([], ap (λ p. p.1) same, (ap (λ p. p.0) same, refl));
}

pub broken_format : {A Cause : Type 0} {cut : Cause} (cause : Cause) → IsFormat {A = A} cut (λ x front. ⊥) (λ bytes. Err cause)
broken_format {cut = cut} cause = record {
  steady = steady_broken cut cause;
  again = λ x front rest none. absurd none;
  taken = λ bytes x rest small e. absurd cc;
}

-- one of two, by a test
pub chosen_format : {A Cause : Type 0} {cut : Cause} {First Second : A → List ℕ → Type 0} {read other : List ℕ → Parse Cause A} (test : Bool)
    → IsFormat cut First read → IsFormat cut Second other
    → IsFormat cut (λ x front. ((test ≡ true) × First x front) ⊎ ((test ≡ false) × Second x front)) (λ bytes. if test then read bytes else other bytes)
chosen_format true first second =
    respelled first (λ x front small spelled. inl (refl, spelled)) (λ x front. elim [ inl h ↦ h.1 | inr h ↦ absurd (let clash = h.0 in cc) ])
chosen_format false first second =
    respelled second (λ x front small spelled. inr (refl, spelled)) (λ x front. elim [ inl h ↦ absurd (let clash = h.0 in cc) | inr h ↦ h.1 ])

-- a format behind a test of what was read
pub provided_format : {A B Cause : Type 0} {cut : Cause} {Spells : B → List ℕ → Type 0} (next : A → List ℕ → Parse Cause B) (test : Bool) (cause : Cause) (x : A)
    → (test ≡ true → IsFormat cut Spells (next x)) → IsFormat cut (λ y front. (test ≡ true) × Spells y front) (λ bytes. provided {A = A × List ℕ} test cause (x, bytes) >>= (λ found. next found.0 found.1))
provided_format next true cause x format = respelled (format refl) (λ y front small spelled. (refl, spelled)) (λ y front h. h.1)
provided_format next false cause x format = respelled (broken_format cause) (λ y front small none. absurd none) (λ y front h. absurd (let clash = h.0 in cc))

-- a format behind a test of what was given
pub given_format : {A B Cause : Type 0} {cut : Cause} {Spells : A → B → List ℕ → Type 0} {next : A → List ℕ → Parse Cause B} (test : Bool) (cause : Cause) (x : A)
    → ((x : A) → IsFormat cut (Spells x) (next x)) → IsFormat cut (λ y front. (test ≡ true) × Spells x y front) (λ bytes. provided test cause x >>= (λ given. next given bytes))
given_format true cause x format = respelled (format x) (λ y front small spelled. (refl, spelled)) (λ y front h. h.1)
given_format false cause x format = respelled (broken_format cause) (λ y front small none. absurd none) (λ y front h. absurd (let clash = h.0 in cc))

-- what was read passes a test, and what follows stands behind it
pub tested_then : {A B Cause : Type 0} {cut : Cause} {First : A → List ℕ → Type 0} {Second : A → B → List ℕ → Type 0} {read : List ℕ → Parse Cause A} {next : A → List ℕ → Parse Cause B}
    (test : A → Bool) (cause : Cause) → IsFormat cut First read → ((x : A) → test x ≡ true → IsFormat cut (Second x) (next x))
    → IsFormat cut (Joined First (λ x y back. (test x ≡ true) × Second x y back)) (λ bytes. read bytes >>= (λ found. provided (test found.0) cause found >>= (λ judged. next judged.0 judged.1)))
tested_then {next = next} test cause first second = then_format first (λ x. provided_format next (test x) cause x (second x))

-- what is made of what was read, by a step that takes no bytes
made_by : {A B Cause : Type 0} {cut : Cause} {Spells : A → List ℕ → Type 0} {Made : A → B → Type 0} {read : List ℕ → Parse Cause A} {next : A → List ℕ → Parse Cause B}
    → IsFormat cut Spells read → ((x : A) → IsFormat cut (λ y back. Made x y × (back ≡ [])) (next x))
    → IsFormat cut (λ y front. (x : A) × Spells x front × Made x y) (λ bytes. read bytes >>= (λ found. next found.0 found.1))
made_by {Spells = Spells} first made =
    respelled (then_format first made)
    (λ y front small (x, here, none, joined, spelled, (is, empty)). (x, subst (Spells x) (sym (joined ∙ ap (λ (b : List ℕ). here ++ b) empty ∙ append-nil here)) spelled, is))
    (λ y front (x, spelled, is). (x, front, [], sym (append-nil front), spelled, (is, refl)))

pub made_format : {A B Cause : Type 0} {cut : Cause} {Spells : A → List ℕ → Type 0} {read : List ℕ → Parse Cause A} (make : A → B)
    → IsFormat cut Spells read → IsFormat cut (λ y front. (x : A) × Spells x front × (make x ≡ y)) (λ bytes. read bytes >>= (λ found. Ok (make found.0, found.1)))
made_format make format = made_by format (λ x. done_format (make x))

-- what is made of what was read, unless that isn't right
pub judged_format : {A B Cause : Type 0} {cut : Cause} {Spells : A → List ℕ → Type 0} {read : List ℕ → Parse Cause A} (judge : A → Result B Cause)
    → IsFormat cut Spells read → IsFormat cut (λ y front. (x : A) × Spells x front × (judge x ≡ Ok y)) (λ bytes. read bytes >>= (λ found. judge found.0 >>= (λ y. Ok (y, found.1))))
judged_format {B = B} {Cause = Cause} {cut = cut} judge format = made_by format (λ x. judged (judge x))
  where
    judged : (made : Result B Cause) → IsFormat cut (λ y back. (made ≡ Ok y) × (back ≡ [])) (λ bytes. made >>= (λ y. Ok (y, bytes)))
    judged (Ok x) = respelled (done_format x) (λ y back small h. (ap Ok h.0, h.1)) (λ y back h. ((given true cut x y h.0).1, h.1))
    judged (Err cause) = respelled (broken_format cause) (λ y back small none. absurd none) (λ y back h. absurd (let clash = h.0 in cc))

-- what passes a test
pub passed_format : {A Cause : Type 0} {cut : Cause} (test : Bool) (cause : Cause) (x : A) → IsFormat cut (λ y back. ((test ≡ true) × (x ≡ y)) × (back ≡ [])) (λ bytes. provided test cause (x, bytes))
passed_format true cause x = respelled (done_format x) (λ y back small h. ((refl, h.0), h.1)) (λ y back h. (h.0.1, h.1))
passed_format false cause x = respelled (broken_format cause) (λ y back small none. absurd none) (λ y back h. absurd (let clash = h.0.0 in cc))

-- what is made of what was read, which passes a test
pub tested_format : {A B Cause : Type 0} {cut : Cause} {Spells : A → List ℕ → Type 0} {read : List ℕ → Parse Cause A} (test : A → Bool) (cause : Cause) (make : A → B)
    → IsFormat cut Spells read → IsFormat cut (λ y front. (x : A) × Spells x front × ((test x ≡ true) × (make x ≡ y))) (λ bytes. read bytes >>= (λ found. provided (test found.0) cause (make found.0, found.1)))
tested_format test cause make format = made_by format (λ x. passed_format (test x) cause (make x))

-- what was read, which passes a test
pub checked_format : {A Cause : Type 0} {cut : Cause} {Spells : A → List ℕ → Type 0} {read : List ℕ → Parse Cause A} (test : A → Bool) (cause : Cause)
    → IsFormat cut Spells read → IsFormat cut (λ x front. Spells x front × (test x ≡ true)) (λ bytes. read bytes >>= (λ found. provided (test found.0) cause found))
checked_format {A} {Spells = Spells} test cause format =
    respelled (tested_format test cause (λ (x : A). x) format)
    (λ x front small (found, spelled, (passes, is)). subst (λ (y : A). Spells y front × (test y ≡ true)) is (spelled, passes))
    (λ x front (spelled, passes). (x, spelled, (passes, refl)))

-- ---- bytes

pub byte_format : {Cause : Type 0} (cut : Cause) → IsFormat cut (λ byte front. front ≡ byte ∷ []) (first_byte cut)
byte_format cut = record { steady = steady_byte cut; again = λ byte front rest is. ap (λ (f : List ℕ). first_byte cut (f ++ rest)) is; taken = taken }
  where
    taken : (bytes : List ℕ) (byte : ℕ) (rest : List ℕ) → AreBytes bytes → first_byte cut bytes ≡ Ok (byte, rest) → BeginWith (λ byte front. front ≡ byte ∷ []) bytes byte rest
    taken [] byte rest small e = absurd cc
    taken (first ∷ bytes) byte rest small e =
        let same : (first, bytes) ≡ (byte, rest) = (given true cut (first, bytes) (byte, rest) e).1 in
        (byte ∷ [], ap (λ (p : ℕ × List ℕ). p.0 ∷ p.1) same, refl)

pub many_format : {Cause : Type 0} (count : ℕ) (cut : Cause) → IsFormat cut (λ text front. (length text ≡ count) × (front ≡ text)) (so_many count cut)
many_format count cut = record {
  steady = steady_many cut count;
  again = λ text front rest (len, is). ap (λ (f : List ℕ). so_many count cut (f ++ rest)) is ∙ so_many_again count cut text rest len;
  taken = λ bytes text rest small e. let taken = so_many_taken count cut bytes text rest e in (text, taken.parts, (taken.len, refl));
}

pub number_format : {Cause : Type 0} (count : ℕ) (cut : Cause) → IsFormat cut (λ n front. (n < 256 ^ count) × (front ≡ le_bytes count n)) (low_first count cut)
number_format count cut = record {
  steady = steady_number cut count;
  again = λ n front rest (fits, is). ap (λ (f : List ℕ). low_first count cut (f ++ rest)) is ∙ number_again count cut n rest fits;
  taken = λ bytes n rest small e. let taken = number_taken count cut bytes n rest small e in (le_bytes count n, taken.parts, (taken.fits, refl));
}

-- these letters
pub letters_format : {Cause : Type 0} (other cut : Cause) (letters : List ℕ) → IsFormat cut (λ text front. (letters ≡ text) × (front ≡ letters)) (these_bytes other cut letters)
letters_format other cut [] = done_format []
letters_format other cut (letter ∷ letters) =
    respelled (tested_then (λ byte. nat_eq byte letter) other (byte_format cut) (λ byte is. made_format (λ behind. letter ∷ behind) (letters_format other cut letters)))
    (λ text front small (byte, first, back, joined, one, (same, (others, (spelled, behind), made))).
    (ap (λ (l : List ℕ). letter ∷ l) spelled ∙ made, joined ∙ (λ t. one t ++ behind t) ∙ ap (λ (b : ℕ). b ∷ letters) (eqb-true byte letter same)))
    (λ text front (is, all). (letter, letter ∷ [], letters, all, refl, (eq-eqb letter letter refl, (letters, (refl, refl), is))))

-- ---- many things

-- the bytes are the spellings of things, joined, each behind those before it
abbrev pub SpellTimes : {A : Type 0} → (List A → A → List ℕ → Type 0) → List A → List A → List ℕ → Type 0
SpellTimes One before [] bytes = bytes ≡ []
SpellTimes One before (x ∷ xs) bytes = (front : List ℕ) × (back : List ℕ) × (bytes ≡ front ++ back) × One before x front × SpellTimes One (before ++ x ∷ []) xs back

pub times_format : {A Cause : Type 0} {cut : Cause} {One : List A → A → List ℕ → Type 0} {one : List A → List ℕ → Parse Cause A} → ((before : List A) → IsFormat cut (One before) (one before))
    → (before : List A) (count : ℕ) → IsFormat cut (λ xs front. (length xs ≡ count) × SpellTimes One before xs front) (so_many_times one before count)
times_format {A} {One = One} one before zero =
    respelled (done_format [])
    (λ xs front small (is, none). (ap length (sym is), subst (λ (ys : List A). SpellTimes One before ys front) is none))
    (elim [ [] ↦ λ front h. (refl, h.1) | x ∷ xs ↦ λ front h. absurd (omega (arith, h.0)) ])
times_format {A} {One = One} one before (suc count) =
    respelled (then_format (one before) (λ x. made_format (λ others. x ∷ others) (times_format one (before ++ x ∷ []) count)))
    (λ xs front small (x, first, back, joined, spelled, (others, (many, behind), is)).
    (sym (ap length is) ∙ ap suc many, subst (λ (ys : List A). SpellTimes One before ys front) is (first, back, joined, spelled, behind)))
    (elim [
      | [] ↦ λ front h. absurd (omega (arith, h.0))
      | x ∷ xs ↦ λ front h. let (first, back, joined, spelled, behind) = h.1 in (x, first, back, joined, spelled, (xs, (omega (arith, h.0), behind), refl))
    ])

-- the bytes are the spellings of things, joined, a thing for each item, by its mark
abbrev pub SpellEach : {T M A : Type 0} → (T → M → A → List ℕ → Type 0) → List T → List M → List A → List ℕ → Type 0
SpellEach One [] marks [] bytes = bytes ≡ []
SpellEach One (item ∷ items) (mark ∷ marks) (x ∷ xs) bytes = (front : List ℕ) × (back : List ℕ) × (bytes ≡ front ++ back) × One item mark x front × SpellEach One items marks xs back
SpellEach One _ _ _ bytes = ⊥

pub each_format : {T M A Cause : Type 0} {cut : Cause} {One : T → M → A → List ℕ → Type 0} {one : T → M → List ℕ → Parse Cause A} (few : Cause) → ((item : T) (mark : M) → IsFormat cut (One item mark) (one item mark))
    → (items : List T) (marks : List M) → IsFormat cut (SpellEach One items marks) (each_of few one items marks)
each_format {A = A} {One = One} few one [] marks =
    respelled (done_format [])
    (λ xs front small (is, none). subst (λ (ys : List A). SpellEach One [] marks ys front) is none)
    (elim [ [] ↦ λ front h. (refl, h) | x ∷ xs ↦ λ front h. absurd h ])
each_format few one (item ∷ items) [] =
    respelled (broken_format few) (λ xs front small none. absurd none) (elim [ [] ↦ λ front h. absurd h | x ∷ xs ↦ λ front h. absurd h ])
each_format {A = A} {One = One} few one (item ∷ items) (mark ∷ marks) =
    respelled (then_format (one item mark) (λ x. made_format (λ others. x ∷ others) (each_format few one items marks)))
    (λ xs front small (x, first, back, joined, spelled, (others, behind, is)). subst (λ (ys : List A). SpellEach One (item ∷ items) (mark ∷ marks) ys front) is (first, back, joined, spelled, behind))
    (elim [
      | [] ↦ λ front h. absurd h
      | x ∷ xs ↦ λ front (first, back, joined, spelled, behind). (x, first, back, joined, spelled, (xs, behind, refl))
    ])
