-- How the steps of a reader join.
use Rattle.std.proofs.Common.{◌≡◌, ℕ, zero, suc, ◌+◌, ◌*◌, ◌<◌, ◌≤◌, ◌^◌, List, [], ◌∷◌, ◌++◌, length, get_or, take, drop, Some, None, refl, sym, ap, subst, ◌∙◌, append_assoc, arith}
use Rattle.std.specs.Prelude.{All, IfSome, Result, Ok, Err, slice_index_or}
use Rattle.std.specs.Int.{bytes_low_first}
use Rattle.std.specs.Hash.{le_bytes}
use Rattle.std.proofs.lemmas.List.{length-append, length-take-le, take-append-drop}
use Rattle.std.proofs.lemmas.List.Elements.{All-nil, All-head, All-cons, All-append, All-take, All-from_get_or}
use Rattle.byteorder.specs.Endian.{little_number}
use Rattle.byteorder.specs.Numbers.{little_from-cons}
use Rattle.nibble_pack.specs.Bytes.{AreBytes, number_of_bytes, low_first-number_of_bytes, bytes_low_first-below}
use Rattle.nibble_pack.specs.Parsing.{Parse, ◌>>=◌, first_byte, low_first}
use Rattle.nibble_pack.proofs.lemmas.Steady.{number_again}
use Rattle.nl_io.specs.Content.{Told, without_front, IsFront}
use Rattle.checkpoint_io.specs.declared.cause.Cause.{Cause}
use Rattle.checkpoint_io.specs.declared.cause.Cause.TheVariants as causes
use Rattle.checkpoint_io.specs.declared.fault.BlockFault.{BlockFault}
use Rattle.checkpoint_io.specs.declared.fault.BlockFault.TheVariants.{Damaged, ReadFault, NoMemory}
use Rattle.checkpoint_io.specs.Places.{UnreadBytes, LogPlace, with_front, log_place, further, BytesBetween, StandsBetween, Refuses, ReadsAs}
use Rattle.checkpoint_io.proofs.lemmas.BlockLaws.{le_length}
use Rattle.checkpoint_io.proofs.lemmas.FileLaws.{with_front-both}

-- ---- numbers at the front of bytes

number_read : (size : ℕ) (bytes : List ℕ) → size ≤ length bytes → little_number size bytes ≡ number_of_bytes (take size bytes)
number_read zero bytes long = refl
number_read (suc size) [] long = absurd (omega (arith, long))
number_read (suc size) (b ∷ bytes) long = ap (λ (n : ℕ). b + 256 * n) (little_from-cons 0 size b bytes ∙ number_read size bytes (omega (arith, long)))

-- the bytes of the number that was read
pub number_first : (size : ℕ) (bytes : List ℕ) → ((i : ℕ) → get_or bytes i 0 < 256) → size ≤ length bytes → take size bytes ≡ le_bytes size (little_number size bytes)
unfolding le_bytes
number_first size bytes small long =
    let front = take size bytes in
    let are : All (λ b. b < 256) front = All-take (λ (b : ℕ). b < 256) size bytes (All-from_get_or (λ (b : ℕ). b < 256) bytes 0 (λ i within. small i)) in
    let len : length front ≡ size = length-take-le size bytes long in
    sym (low_first-number_of_bytes front are) ∙ (λ i. bytes_low_first 0 (len i) (sym (number_read size bytes long) i))

-- ---- places

-- a piece that came from a source waits behind the bytes that did before
pub piece_waits : (left : Told) (bytes now piece : List ℕ) (n : ℕ) → IsFront n piece left → now ≡ bytes ++ piece → with_front now (without_front n left) ≡ with_front bytes left
piece_waits None bytes now piece n front is = refl
piece_waits (Some content) bytes now piece n front is =
    ap (λ (b : List ℕ). Some (b ++ drop n content)) (is ∙ ap (λ (p : List ℕ). bytes ++ p) front.1) ∙ ap Some (append_assoc bytes (take n content) (drop n content) ∙ ap (λ (b : List ℕ). bytes ++ b) (take-append-drop n content))

-- the front of the bytes that wait was taken
pub front_taken : (front : List ℕ) (size : ℕ) (from mid to : UnreadBytes) (left behind : Told) → with_front mid.bytes behind ≡ with_front from.bytes left → mid.offset ≡ from.offset → take size mid.bytes ≡ front → length front ≡ size → AreBytes front → to.bytes ≡ drop size mid.bytes → to.offset ≡ further mid.offset size
    → BytesBetween front (log_place from left) (log_place to behind)
front_taken front size from mid to left behind same start is len small moved offset =
    let parts : mid.bytes ≡ front ++ to.bytes = sym (take-append-drop size mid.bytes) ∙ ap (λ (b : List ℕ). b ++ drop size mid.bytes) is ∙ ap (λ (b : List ℕ). front ++ b) (sym moved) in
    record {
      ahead = sym same ∙ ap (λ (b : List ℕ). with_front b behind) parts ∙ with_front-both front to.bytes behind;
      offset = offset ∙ ap (λ (o : ℕ). further o size) start ∙ ap (further from.offset) (sym len);
      small = small;
    }

-- ---- what is told of the bytes ahead

pub of_all : (told : Told) (P : List ℕ → Type 0) → ((bytes : List ℕ) → P bytes) → IfSome told P
of_all None P always = tt
of_all (Some bytes) P always = always bytes

of_more : (told : Told) (P Q : List ℕ → Type 0) → ((bytes : List ℕ) → P bytes → Q bytes) → IfSome told P → IfSome told Q
of_more None P Q each there = tt
of_more (Some bytes) P Q each there = each bytes there

-- what holds behind some bytes holds of those with them in front
pub of_behind : (front : List ℕ) (from to : Told) (P Q : List ℕ → Type 0) → from ≡ with_front front to → ((rest : List ℕ) → P rest → Q (front ++ rest)) → IfSome to P → IfSome from Q
of_behind front from None P Q is each there = subst (λ (told : Told). IfSome told Q) (sym is) tt
of_behind front from (Some rest) P Q is each there = subst (λ (told : Told). IfSome told Q) (sym is) (each rest there)

-- ---- one step behind another

further-add : (offset a b : ℕ) → further (further offset a) b ≡ further offset (a + b)
further-add offset a b = omega arith

passes_both : (front back : List ℕ) (from mid to : LogPlace) → BytesBetween front from mid → BytesBetween back mid to → BytesBetween (front ++ back) from to
passes_both front back from mid to p q = record {
  ahead = p.ahead ∙ ap (with_front front) q.ahead ∙ sym (with_front-both front back to.ahead);
  offset = q.offset ∙ ap (λ (o : ℕ). further o (length back)) p.offset ∙ further-add from.offset (length front) (length back) ∙ ap (further from.offset) (sym (length-append front back));
  small = All-append (λ (b : ℕ). b < 256) front back p.small q.small;
}

-- how reading goes on behind bytes
abbrev pub GoesOnBehind : {A : Type 0} → (List ℕ → Parse Cause A) → List ℕ → (List ℕ → Parse Cause A) → Type 0
GoesOnBehind read front tail = (rest : List ℕ) → read (front ++ rest) ≡ tail rest

stands_behind : {A : Type 0} (read tail : List ℕ → Parse Cause A) (x : A) (front : List ℕ) (from mid to : LogPlace) → GoesOnBehind read front tail → BytesBetween front from mid → StandsBetween tail x mid to → StandsBetween read x from to
stands_behind read tail x front from mid to on passes stands = record {
  front = front ++ stands.front;
  passes = passes_both front stands.front from mid to passes stands.passes;
  found = λ rest. ap read (append_assoc front stands.front rest) ∙ on (stands.front ++ rest) ∙ stands.found rest;
}

refused_behind : {A : Type 0} (read tail : List ℕ → Parse Cause A) (front : List ℕ) (from mid : LogPlace) (left : Told) (fault : BlockFault) → GoesOnBehind read front tail → BytesBetween front from mid → Refuses tail mid left fault → Refuses read from left fault
refused_behind read tail front from mid left (Damaged cause) on passes refused = of_behind front from.ahead mid.ahead _ _ passes.ahead (λ rest e. on rest ∙ e) refused
refused_behind read tail front from mid left ReadFault on passes (bytes, parted, cut) =
    (front ++ bytes, passes.ahead ∙ ap (with_front front) parted ∙ sym (with_front-both front bytes left), on bytes ∙ cut)
refused_behind read tail front from mid left NoMemory on passes refused = tt

-- what a call answers that goes on there
pub answers_behind : {A : Type 0} (r : Result A BlockFault) (read tail : List ℕ → Parse Cause A) (front : List ℕ) (from mid to : LogPlace) (left : Told) → GoesOnBehind read front tail → BytesBetween front from mid → ReadsAs tail mid to left r → ReadsAs read from to left r
answers_behind (Ok x) read tail front from mid to left on passes stands = stands_behind read tail x front from mid to on passes stands
answers_behind (Err fault) read tail front from mid to left on passes refused = refused_behind read tail front from mid left fault on passes refused

pub stands_then : {A B : Type 0} (read : List ℕ → Parse Cause A) (next : A × List ℕ → Parse Cause B) (x : A) (y : B) (from mid to : LogPlace) → StandsBetween read x from mid → StandsBetween (λ bytes. next (x, bytes)) y mid to → StandsBetween (λ bytes. read bytes >>= next) y from to
stands_then {A} read next x y from mid to p q = stands_behind (λ bytes. read bytes >>= next) (λ bytes. next (x, bytes)) y p.front from mid to (λ rest. ap (λ (r : Parse Cause A). r >>= next) (p.found rest)) p.passes q

-- the last step
pub stands_last : {A B : Type 0} (read : List ℕ → Parse Cause A) (next : A × List ℕ → Parse Cause B) (x : A) (y : B) (from to : LogPlace) → StandsBetween read x from to → ((rest : List ℕ) → next (x, rest) ≡ Ok (y, rest)) → StandsBetween (λ bytes. read bytes >>= next) y from to
stands_last {A} read next x y from to p last = record { front = p.front; passes = p.passes; found = λ rest. ap (λ (r : Parse Cause A). r >>= next) (p.found rest) ∙ last rest }

pub refused_then : {A B : Type 0} (read : List ℕ → Parse Cause A) (next : A × List ℕ → Parse Cause B) (x : A) (from mid : LogPlace) (left : Told) (fault : BlockFault) → StandsBetween read x from mid → Refuses (λ bytes. next (x, bytes)) mid left fault → Refuses (λ bytes. read bytes >>= next) from left fault
refused_then {A} read next x from mid left fault p refused = refused_behind (λ bytes. read bytes >>= next) (λ bytes. next (x, bytes)) p.front from mid left fault (λ rest. ap (λ (r : Parse Cause A). r >>= next) (p.found rest)) p.passes refused

-- where the first step is refused
pub refused_first : {A B : Type 0} (read : List ℕ → Parse Cause A) (next : A × List ℕ → Parse Cause B) (from : LogPlace) (left : Told) (fault : BlockFault) → Refuses read from left fault → Refuses (λ bytes. read bytes >>= next) from left fault
refused_first {A} read next from left (Damaged cause) refused = of_more from.ahead _ _ (λ bytes e. ap (λ (r : Parse Cause A). r >>= next) e) refused
refused_first {A} read next from left ReadFault (bytes, parted, cut) = (bytes, parted, ap (λ (r : Parse Cause A). r >>= next) cut)
refused_first read next from left NoMemory refused = tt

-- what a call answers that goes on behind a step, or behind a step and a test
pub answers_then : {A B : Type 0} (r : Result B BlockFault) (read : List ℕ → Parse Cause A) (next : A × List ℕ → Parse Cause B) (tail : List ℕ → Parse Cause B) (x : A) (from mid to : LogPlace) (left : Told) → StandsBetween read x from mid → ((rest : List ℕ) → next (x, rest) ≡ tail rest) → ReadsAs tail mid to left r → ReadsAs (λ bytes. read bytes >>= next) from to left r
answers_then {A} r read next tail x from mid to left p on answers = answers_behind r (λ bytes. read bytes >>= next) tail p.front from mid to left (λ rest. ap (λ (q : Parse Cause A). q >>= next) (p.found rest) ∙ on rest) p.passes answers

-- ---- bytes and numbers

-- the first of the bytes
pub byte_first : (bytes : List ℕ) → 1 ≤ length bytes → AreBytes bytes → (take 1 bytes ≡ slice_index_or bytes 0 0 ∷ []) × (slice_index_or bytes 0 0 < 256)
byte_first [] some small = absurd (omega (arith, some))
byte_first (byte ∷ bytes) some small = (refl, All-head (λ (b : ℕ). b < 256) byte bytes small)

pub byte_stands : (byte : ℕ) (from mid to : UnreadBytes) (left behind : Told) → with_front mid.bytes behind ≡ with_front from.bytes left → mid.offset ≡ from.offset → take 1 mid.bytes ≡ byte ∷ [] → byte < 256 → to.bytes ≡ drop 1 mid.bytes → to.offset ≡ further mid.offset 1
    → StandsBetween (first_byte causes.Cut) byte (log_place from left) (log_place to behind)
byte_stands byte from mid to left behind same start is small moved offset = record {
  front = byte ∷ [];
  passes = front_taken (byte ∷ []) 1 from mid to left behind same start is refl (All-cons (λ (b : ℕ). b < 256) byte [] small (All-nil (λ (b : ℕ). b < 256))) moved offset;
  found = λ rest. refl;
}

pub number_stands : (size n : ℕ) (from mid to : UnreadBytes) (left behind : Told) → n < 256 ^ size → with_front mid.bytes behind ≡ with_front from.bytes left → mid.offset ≡ from.offset → take size mid.bytes ≡ le_bytes size n → to.bytes ≡ drop size mid.bytes → to.offset ≡ further mid.offset size
    → StandsBetween (low_first size causes.Cut) n (log_place from left) (log_place to behind)
unfolding le_bytes
number_stands size n from mid to left behind fits same start is moved offset = record {
  front = le_bytes size n;
  passes = front_taken (le_bytes size n) size from mid to left behind same start is (le_length size n) (bytes_low_first-below 0 size n) moved offset;
  found = λ rest. number_again size causes.Cut n rest fits;
}
