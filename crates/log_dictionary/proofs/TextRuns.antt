-- Runs of bytes that stand for themselves.
use Rattle.std.proofs.Common.{◌≡◌, ◌≢◌, ◌⊎◌, inl, inr, ℕ, zero, suc, ◌+◌, ◌<◌, ◌≤◌, true, false, cond, eqb, ◌||◌, ◌&&◌, List, [], ◌∷◌, ◌++◌, length, get_or, take, drop, ◌-◌, Bool, Option, Some, None}
use Rattle.std.proofs.Common.{refl, sym, ap, subst, ◌∙◌, append_assoc, append-nil, arith, length-append}
use Rattle.std.specs.List.{list_all}
use Rattle.std.proofs.Math.Bool.{or-false}
use Rattle.std.proofs.lemmas.Bool.{ne_eqb, eqb-true, false≢true, false_from_ne_true, and_parts}
use Rattle.std.proofs.lemmas.List.{take-append-drop, take_at}
use Rattle.std.proofs.lemmas.List.Folds.{list_any-append}
use Rattle.bstr.specs.Find.{Nowhere, Passes}
use Rattle.bstr.specs.Bytes.{is_in}
use Rattle.log_dictionary.specs.Texts.{text_step, is_plain, unit_from, text_from, with_first_byte, has_nul, unescaped, IsSpelled}
use Rattle.log_dictionary.specs.Texts.TextPlace.{outside, behind_backslash}
use Rattle.log_dictionary.specs.Texts.TextStep.{ends, goes_on, gives, breaks}
use Rattle.log_dictionary.specs.TextRuns.{ends_run, EndsRun, IsRun, IsEscapedRun, BeginsNoText}
use Rattle.log_dictionary.proofs.TextLemmas.{follow_step, unit_step, unit_nil, unit_is, unit_shorter, with_bytes, with_no_bytes, IsWalked, walk_begins, walk_goes_on}
use Rattle.log_dictionary.proofs.TextLemmas.{walk_breaks, walk_ends, walk_spells, walk_is_spelled, walk_opens}

-- ---- what a byte does outside of escapes

unended_step : (b : ℕ) (mark slash plain : Bool) → (mark || slash) ≡ false → cond mark ends (cond slash (goes_on behind_backslash) (cond plain (gives b) breaks)) ≡ cond plain (gives b) breaks
unended_step b true slash plain e = absurd cc
unended_step b false true plain e = absurd cc
unended_step b false false plain e = refl

-- a byte that ends no run stands for itself or mustn't stand there
run_step : (b : ℕ) → ends_run b ≡ false → text_step outside b ≡ cond (is_plain b) (gives b) breaks
run_step b e = unended_step b (eqb b 34) (eqb b 92) (is_plain b) e

-- a byte that stands for itself isn't one that doesn't
plain_other : (b c : ℕ) → is_plain c ≡ false → is_plain b ≡ true → eqb b c ≡ false
plain_other b c other plain = ne_eqb b c (λ same. false≢true (sym other ∙ sym (ap is_plain same) ∙ plain))

plain_unended : (b : ℕ) → is_plain b ≡ true → ends_run b ≡ false
plain_unended b plain = rw (plain_other b 34 refl plain, plain_other b 92 refl plain) refl

pub plain_step : (b : ℕ) → is_plain b ≡ true → text_step outside b ≡ gives b
plain_step b plain = run_step b (plain_unended b plain) ∙ ap (λ (t : Bool). cond t (gives b) breaks) plain

-- ---- a run

pub front_bytes : (b : ℕ) (value : List ℕ) (text : Option (List ℕ × List ℕ)) → with_first_byte b (with_bytes value text) ≡ with_bytes (b ∷ value) text
front_bytes b value None = refl
front_bytes b value (Some text) = refl

-- a run is the spelling of its bytes
run_goes : (run rest : List ℕ) → list_all is_plain run ≡ true → text_from outside (run ++ rest) ≡ with_bytes run (text_from outside rest)
run_goes [] rest plain = with_no_bytes (text_from outside rest)
run_goes (b ∷ run) rest plain =
    let parts = and_parts (is_plain b) (list_all is_plain run) plain in
    follow_step outside b (run ++ rest) (gives b) (plain_step b parts.0) ∙ ap (with_first_byte b) (run_goes run rest parts.1) ∙ front_bytes b run (text_from outside rest)

-- no byte of a run is 0
run_without_nul : (run : List ℕ) → list_all is_plain run ≡ true → has_nul run ≡ false
run_without_nul [] plain = refl
run_without_nul (b ∷ run) plain =
    let parts = and_parts (is_plain b) (list_all is_plain run) plain in
    rw (plain_other b 0 refl parts.0) (run_without_nul run parts.1)

ended_at : (bytes : List ℕ) (at : ℕ) → (at < length bytes → ends_run (get_or bytes at 0) ≡ true) → EndsRun (drop at bytes)
ended_at [] zero stop = tt
ended_at [] (suc at) stop = tt
ended_at (b ∷ bytes) zero stop = stop (omega arith)
ended_at (b ∷ bytes) (suc at) stop = ended_at bytes at (λ h. stop (omega (arith, h)))

pub run_is : (bytes : List ℕ) (at : ℕ) → (at < length bytes → ends_run (get_or bytes at 0) ≡ true) → list_all is_plain (take at bytes) ≡ true → IsRun bytes (take at bytes) (drop at bytes)
run_is bytes at stop plain = record { joined = sym (take-append-drop at bytes); plain = plain; ended = ended_at bytes at stop }

run_follow : (b : ℕ) (plain : Bool) (bytes : List ℕ) → text_step outside b ≡ cond plain (gives b) breaks → (plain ≡ true → text_from outside bytes ≡ None) → text_from outside (b ∷ bytes) ≡ None
run_follow b true bytes step more = follow_step outside b bytes (gives b) step ∙ ap (with_first_byte b) (more refl)
run_follow b false bytes step more = follow_step outside b bytes breaks step

other_fails : (a b : Bool) → (a && b) ≡ false → a ≡ true → b ≡ false
other_fails true b e is = e
other_fails false b e is = absurd cc

-- where a byte before the next mark or backslash doesn't stand for itself no text begins
pub run_breaks : (bytes : List ℕ) (at : ℕ) → ((k : ℕ) → k < at → ends_run (get_or bytes k 0) ≡ false) → list_all is_plain (take at bytes) ≡ false → BeginsNoText bytes
run_breaks [] zero before broken = absurd cc
run_breaks [] (suc at) before broken = absurd cc
run_breaks (b ∷ bytes) zero before broken = absurd cc
run_breaks (b ∷ bytes) (suc at) before broken = λ rest.
    run_follow b (is_plain b) (bytes ++ rest) (run_step b (before 0 (omega arith)))
    (λ plain. run_breaks bytes at (λ k h. before (suc k) (omega (arith, h))) (other_fails (is_plain b) (list_all is_plain (take at bytes)) broken plain) rest)

-- ---- the search for a run's end

-- the set that is searched for
either_is : (b : ℕ) → is_in (34 ∷ 92 ∷ []) b ≡ ends_run b
unfolding is_in
either_is b = ap (λ (t : Bool). eqb b 34 || t) (or-false (eqb b 92))

pub before_end : (bytes : List ℕ) (at k : ℕ) → Nowhere (Passes (is_in (34 ∷ 92 ∷ [])) bytes) 0 at → k < at → ends_run (get_or bytes k 0) ≡ false
before_end bytes at k none below =
    false_from_ne_true (ends_run (get_or bytes k 0)) (λ found. none k (omega arith) below (either_is (get_or bytes k 0) ∙ found))

pub at_end : (bytes : List ℕ) (at : ℕ) → Passes (is_in (34 ∷ 92 ∷ [])) bytes at → ends_run (get_or bytes at 0) ≡ true
at_end bytes at found = sym (either_is (get_or bytes at 0)) ∙ found

-- ---- an escape and a run

slash_or_mark : (b : ℕ) (mark slash : Bool) → (mark ≡ true → b ≡ 34) → (slash ≡ true → b ≡ 92) → (mark || slash) ≡ true → b ≢ 92 → b ≡ 34
slash_or_mark b true slash m s e ne = m refl
slash_or_mark b false true m s e ne = absurd (ne (s refl))
slash_or_mark b false false m s e ne = absurd cc

-- at the end of a run no byte is spelled but by an escape
pub no_escape : (bytes : List ℕ) → EndsRun bytes → ((rest : List ℕ) → bytes ≢ 92 ∷ rest) → unit_from outside bytes ≡ None
no_escape [] ended other = unit_nil outside
no_escape (b ∷ bytes) ended other =
    let mark : b ≡ 34 = slash_or_mark b (eqb b 34) (eqb b 92) (eqb-true b 34) (eqb-true b 92) ended (λ is. other bytes (ap (λ (n : ℕ). n ∷ bytes) is)) in
    unit_step outside b bytes ends (ap (text_step outside) mark)

-- behind a backslash stands what an escape spells
pub escape_unit : (bytes rest : List ℕ) → bytes ≡ 92 ∷ rest → unit_from outside bytes ≡ unit_from behind_backslash rest
escape_unit bytes rest is = ap (unit_from outside) is ∙ unit_step outside 92 rest (goes_on behind_backslash) refl

-- no text begins with an escape that is followed by what begins none
pub escape_breaks : (bytes behind : List ℕ) (byte : ℕ) → unit_from outside bytes ≡ Some (byte, behind) → BeginsNoText behind → BeginsNoText bytes
escape_breaks bytes behind byte e none = λ rest.
    let unit = unit_is outside bytes byte behind e in
    ap (λ (l : List ℕ). text_from outside (l ++ rest)) unit.joined ∙ ap (text_from outside) (append_assoc unit.unit behind rest) ∙ unit.goes (behind ++ rest) ∙ ap (with_first_byte byte) (none rest)

-- ---- walks

with_more_bytes : (a b : List ℕ) (text : Option (List ℕ × List ℕ)) → with_bytes a (with_bytes b text) ≡ with_bytes (a ++ b) text
with_more_bytes a b None = refl
with_more_bytes a b (Some text) = ap (λ (v : List ℕ). Some (v, text.1)) (sym (append_assoc a b text.0))

pub walk_run : (body rest run after value : List ℕ) → IsWalked body rest value → IsRun rest run after → IsWalked body after (value ++ run)
walk_run body rest run after value walked is = record {
  front = walked.front ++ run;
  joined = walked.joined ∙ ap (λ (l : List ℕ). walked.front ++ l) is.joined ∙ sym (append_assoc walked.front run after);
  goes = λ r. ap (text_from outside) (append_assoc walked.front run r) ∙ walked.goes (run ++ r) ∙ ap (with_bytes value) (run_goes run r is.plain) ∙ with_more_bytes value run (text_from outside r);
}

pub walk_escaped_run : (body rest run after value : List ℕ) (byte : ℕ) → IsWalked body rest value → IsEscapedRun rest byte run after → IsWalked body after ((value ++ byte ∷ []) ++ run)
walk_escaped_run body rest run after value byte walked is = walk_run body is.behind run after (value ++ byte ∷ []) (walk_goes_on body rest value is.behind byte walked is.escape) is.follows

-- ---- the loops

-- the front of a body that was read, as a loop keeps it
pub record IsReadText (body rest : List ℕ) (len : ℕ) (nul : Bool) : Type 0 where
  pub value : List ℕ
  pub walked : IsWalked body rest value
  pub ended : EndsRun rest
  pub len_is : len ≡ length value
  pub nul_is : nul ≡ has_nul value
  pub short : len + length rest ≤ length body

pub read_begins : (body run rest : List ℕ) → IsRun body run rest → IsReadText body rest (length run) false
read_begins body run rest is = record {
  value = run;
  walked = walk_run body body run rest [] (walk_begins body) is;
  ended = is.ended;
  len_is = refl;
  nul_is = sym (run_without_nul run is.plain);
  short = omega (arith, ap length is.joined, length-append run rest);
}

-- an escape and a run behind it leave fewer bytes
pub escaped_run_shorter : (rest run after : List ℕ) (byte : ℕ) → IsEscapedRun rest byte run after → 1 + length run + length after ≤ length rest
escaped_run_shorter rest run after byte is =
    omega (arith, unit_shorter rest is.behind byte is.escape, ap length is.follows.joined, length-append run after)

nul_goes_on : (value run : List ℕ) (byte : ℕ) → has_nul run ≡ false → has_nul ((value ++ byte ∷ []) ++ run) ≡ (has_nul value || eqb byte 0)
nul_goes_on value run byte none =
    list_any-append (λ b. eqb b 0) (value ++ byte ∷ []) run ∙ ap (λ (t : Bool). has_nul (value ++ byte ∷ []) || t) none ∙ or-false (has_nul (value ++ byte ∷ []))
    ∙ list_any-append (λ b. eqb b 0) value (byte ∷ []) ∙ ap (λ (t : Bool). has_nul value || t) (or-false (eqb byte 0))

pub read_goes_on : (body rest run after : List ℕ) (len byte : ℕ) (nul : Bool) → IsReadText body rest len nul → IsEscapedRun rest byte run after
    → IsReadText body after (len + (1 + length run)) (nul || eqb byte 0)
read_goes_on body rest run after len byte nul read is = record {
  value = (read.value ++ byte ∷ []) ++ run;
  walked = walk_escaped_run body rest run after read.value byte read.walked is;
  ended = is.follows.ended;
  len_is = omega (arith, read.len_is, length-append (read.value ++ byte ∷ []) run, length-append read.value (byte ∷ []));
  nul_is = ap (λ (t : Bool). t || eqb byte 0) read.nul_is ∙ sym (nul_goes_on read.value run byte (run_without_nul run is.follows.plain));
  short = omega (arith, read.short, escaped_run_shorter rest run after byte is);
}

pub begins_no_text : (bytes : List ℕ) → BeginsNoText bytes → text_from outside bytes ≡ None
begins_no_text bytes none = ap (text_from outside) (sym (append-nil bytes)) ∙ none []

-- a walk that stops where no escape is spelled and no closing mark stands found no text
pub read_breaks : (body rest : List ℕ) (len : ℕ) (nul : Bool) → IsReadText body rest len nul → (unit_from outside rest ≡ None) ⊎ BeginsNoText rest
    → ((after : List ℕ) → rest ≢ 34 ∷ after) → text_from outside body ≡ None
read_breaks body rest len nul read (inl none) unmarked = walk_breaks body rest read.value read.walked none unmarked
read_breaks body rest len nul read (inr none) unmarked =
    ap (text_from outside) read.walked.joined ∙ read.walked.goes rest ∙ ap (with_bytes read.value) (begins_no_text rest none)

-- a walk over a whole spelling gives all that it stands for
pub read_ends : (spelled rest value : List ℕ) → ◌≡◌ {A = Option (List ℕ × List ℕ)} (text_from outside (spelled ++ 34 ∷ [])) (Some (unescaped spelled, [])) → IsWalked spelled rest value
    → (unit_from outside rest ≡ None) ⊎ BeginsNoText rest → value ≡ unescaped spelled
read_ends spelled rest value whole walked (inl none) = walk_ends spelled rest value whole walked none
read_ends spelled rest value whole walked (inr none) =
    let nothing : text_from outside (spelled ++ 34 ∷ []) ≡ None =
    ap (λ (l : List ℕ). text_from outside (l ++ 34 ∷ [])) walked.joined ∙ ap (text_from outside) (append_assoc walked.front rest (34 ∷ [])) ∙ walked.goes (rest ++ 34 ∷ []) ∙ ap (with_bytes value) (none (34 ∷ [])) in
    absurd (none_some (sym nothing ∙ whole))
  where
    none_some : ◌≡◌ {A = Option (List ℕ × List ℕ)} None (Some (unescaped spelled, [])) → ⊥
    none_some e = cc

-- the bytes before the rest are the front
front_is : (body rest value : List ℕ) (walked : IsWalked body rest value) → take (length body - length rest) body ≡ walked.front
front_is body rest value walked =
    let at : length body - length rest ≡ length walked.front = omega (arith, ap length walked.joined, length-append walked.front rest) in
    rw at (ap (take (length walked.front)) walked.joined ∙ take_at walked.front rest (length walked.front) refl)

pub read_is_spelled : (body rest : List ℕ) (len : ℕ) (nul : Bool) → IsReadText body rest len nul → IsSpelled (take (length body - length rest) body) len nul
read_is_spelled body rest len nul read =
    let whole = walk_is_spelled body rest read.value read.walked in
    subst (λ (l : List ℕ). IsSpelled l len nul) (sym (front_is body rest read.value read.walked)) (subst (λ (n : ℕ). IsSpelled read.walked.front n nul) (sym read.len_is) (subst (λ (t : Bool). IsSpelled read.walked.front (length read.value) t) (sym read.nul_is) whole))

pub read_opens : (body rest after : List ℕ) (len : ℕ) (nul : Bool) → IsReadText body rest len nul → rest ≡ 34 ∷ after → ◌≡◌ {A = Option (List ℕ × List ℕ)} (Some (unescaped (take (length body - length rest) body), after)) (text_from outside body)
read_opens body rest after len nul read mark =
    let value_is : unescaped (take (length body - length rest) body) ≡ read.value = ap unescaped (front_is body rest read.value read.walked) ∙ walk_spells body rest read.value read.walked in
    ap (λ (v : List ℕ). Some (v, after)) value_is ∙ sym (walk_opens body after read.value (subst (λ (r : List ℕ). IsWalked body r read.value) mark read.walked))
