-- A body is one list of records, or it breaks by one cause.
use Rattle.std.proofs.Common.{◌≡◌, inl, inr, ℕ, zero, suc, ◌<◌, ◌≤◌, true, List, [], ◌∷◌, ◌++◌, length, Option, Some, Result, Ok, Err, refl, sym, ap, subst, ◌∙◌, append_assoc, append-nil, arith}
use Rattle.std.specs.Prelude.{◌≢◌, ◌⊎◌, slice_get}
use Rattle.std.proofs.Math.ListN.{get_or-append}
use Rattle.std.proofs.lemmas.List.{length-append}
use Rattle.std.proofs.lemmas.Option.{slice_get_within, slice_get-get_or, get_or_from_slice_get}
use Rattle.log_dictionary.specs.declared.message.Message.{Message}
use Rattle.nibble_pack.specs.Bytes.{AreBytes, back_bytes}
use Rattle.arg_records.specs.declared.call.Call.{Call}
use Rattle.arg_records.specs.Calls.{IsCall, last_stamp}
use Rattle.buffer_extent.specs.declared.fault.BodyCause.{BodyCause}
use Rattle.buffer_extent.specs.declared.fault.BodyCause.TheVariants as causes
use Rattle.nibble_pack.specs.Parsing.{Parse, ◌>>=◌}
use Rattle.buffer_extent.specs.declared.take.RecordHeader.{RecordHeader}
use Rattle.buffer_extent.specs.declared.numbers.Number.{Number}
use Rattle.buffer_extent.specs.Reading.{header_of, head_at, coded_numbers_at, values_at, types_of, start_at, call_of, arguments_at, record_at}
use Rattle.buffer_extent.specs.Bodies.{SpellsRecord, IsBody, BodyBreak, BeginsWithRecord, GoesOn, BeginsWithHead, records_to_end, body_at}
use Rattle.nibble_pack.proofs.lemmas.Parsing.{given, found}
use Rattle.nibble_pack.proofs.lemmas.Formats.{BeginWith, one_reading, one_spelling, then_format}
use Rattle.buffer_extent.proofs.Arguments.{coded_format, values_format}
use Rattle.buffer_extent.proofs.RecordForms.{Start, SpellRecord, head_format, record_format}

-- ---- one reading

pub read_or_broken : (read : Parse BodyCause Call) (a : Call) (r : List ℕ) (cause : BodyCause) → read ≡ Ok (a, r) → read ≡ Err cause → ⊥
read_or_broken read a r cause first second = let clash : Ok (a, r) ≡ Err cause = sym first ∙ second in cc

-- no record's spelling is a proper prefix of another's
pub SpellsRecord-unique : (messages : List Message) (before : ℕ) (a b : Call) (x y r s : List ℕ) → IsCall messages a
    → IsCall messages b → SpellsRecord messages before a x → SpellsRecord messages before b y → x ++ r ≡ y ++ s
    → (a ≡ b) × (x ≡ y) × (r ≡ s)
SpellsRecord-unique messages before a b x y r s right right_too p q same =
    let first : SpellRecord messages before 0 a x = (p, right, omega arith) in
    let second : SpellRecord messages before 0 b y = (q, right_too, omega arith) in
    let read = one_reading (record_format messages before 0) a b x y r s first second same in
    (read.0, (one_spelling (record_format messages before 0) a b x y r s first second same).1, read.1)

-- ---- a record in front of others

-- a record, and a body behind it
pub record_first : (messages : List Message) (before least : ℕ) (call : Call) (more : List Call) (front behind : List ℕ) → SpellRecord messages before least call front
    → IsBody messages call.stamp call.stamp more behind → IsBody messages before least (call ∷ more) (front ++ behind)
record_first messages before least call more front behind (spelled, right, rises) body =
    record { spelled = (front, behind, refl, spelled, body.spelled); right = (right, body.right); rising = (rises, body.rising) }

-- what a body with a record begins with
pub record FirstRecord (messages : List Message) (before least : ℕ) (call : Call) (more : List Call) (bytes : List ℕ) : Type 0 where
  pub front : List ℕ
  pub back : List ℕ
  pub parts : bytes ≡ front ++ back
  pub here : SpellRecord messages before least call front
  pub rest : IsBody messages call.stamp call.stamp more back

pub first_record : (messages : List Message) (before least : ℕ) (call : Call) (more : List Call) (bytes : List ℕ) → IsBody messages before least (call ∷ more) bytes → FirstRecord messages before least call more bytes
first_record messages before least call more bytes is =
    let (front, back, parts, spelled, rest) = is.spelled in
    record { front = front; back = back; parts = parts; here = (spelled, is.right.0, is.rising.0); rest = record { spelled = rest; right = is.right.1; rising = is.rising.1 } }

-- it is read
pub first_read : (messages : List Message) (before least : ℕ) (call : Call) (more : List Call) (bytes extra : List ℕ) → (first : FirstRecord messages before least call more bytes) → record_at messages before least (bytes ++ extra) ≡ Ok (call, first.back ++ extra)
first_read messages before least call more bytes extra first =
    ap (record_at messages before least) (ap (λ (b : List ℕ). b ++ extra) first.parts ∙ append_assoc first.front first.back extra)
    ∙ (record_format messages before least).again call first.front (first.back ++ extra) first.here

no_record : (messages : List Message) (before least : ℕ) (call : Call) (more : List Call) → IsBody messages before least (call ∷ more) [] → ⊥
no_record messages before least call more is =
    let first = first_record messages before least call more [] is in
    let read = first_read messages before least call more [] [] first in cc

-- ---- one list, one cause

-- a record has a byte
pub some_byte : (messages : List Message) (before least : ℕ) (call : Call) (bytes back : List ℕ) → BeginWith (SpellRecord messages before least) bytes call back → length back < length bytes
some_byte messages before least call bytes back (front, parts, here) = omega (arith, ap length parts, length-append front back, ap length here.0.spelled.joined)

less_behind : (messages : List Message) (before least : ℕ) (call : Call) (more : List Call) (bytes : List ℕ) → (first : FirstRecord messages before least call more bytes) → length first.back < length bytes
less_behind messages before least call more bytes first = some_byte messages before least call bytes first.back (first.front, first.parts, first.here)

-- whole records that keep the rules are read
records_again : (most : ℕ) (messages : List Message) (before least : ℕ) (records : List Call) (body : List ℕ) → IsBody messages before least records body → length body ≤ most → records_to_end most messages before least body ≡ Ok records
records_again most messages before least [] body is short = rw is.spelled refl
records_again most messages before least (call ∷ more) [] is short = absurd (no_record messages before least call more is)
records_again zero messages before least (call ∷ more) (byte ∷ bytes) is short = absurd (omega (arith, short))
records_again (suc most) messages before least (call ∷ more) (byte ∷ bytes) is short =
    let first = first_record messages before least call more (byte ∷ bytes) is in
    let read : record_at messages before least (byte ∷ bytes) ≡ Ok (call, first.back) =
    ap (record_at messages before least) (sym (append-nil (byte ∷ bytes))) ∙ first_read messages before least call more (byte ∷ bytes) [] first ∙ ap (λ (b : List ℕ). Ok (call, b)) (append-nil first.back) in
    let others = records_again most messages call.stamp call.stamp more first.back first.rest (omega (arith, short, less_behind messages before least call more (byte ∷ bytes) first)) in
    rw (read, others) refl

-- what breaks behind them is told
records_broken : (most : ℕ) (messages : List Message) (before least : ℕ) (records : List Call) (cause : BodyCause) (body front rest : List ℕ) → IsBody messages before least records front → body ≡ front ++ rest → rest ≢ []
    → record_at messages (last_stamp before records) (last_stamp least records) rest ≡ Err cause → length body ≤ most → records_to_end most messages before least body ≡ Err cause
records_broken most messages before least [] cause [] front rest is joined some breaks short =
    absurd (some (sym (joined ∙ ap (λ (f : List ℕ). f ++ rest) is.spelled)))
records_broken zero messages before least [] cause (byte ∷ bytes) front rest is joined some breaks short = absurd (omega (arith, short))
records_broken (suc most) messages before least [] cause (byte ∷ bytes) front rest is joined some breaks short =
    let here : record_at messages before least (byte ∷ bytes) ≡ Err cause = ap (record_at messages before least) (joined ∙ ap (λ (f : List ℕ). f ++ rest) is.spelled) ∙ breaks in
    rw here refl
records_broken most messages before least (call ∷ more) cause [] front rest is joined some breaks short =
    let first = first_record messages before least call more front is in
    absurd (omega (arith, ap length joined, length-append front rest, less_behind messages before least call more front first))
records_broken zero messages before least (call ∷ more) cause (byte ∷ bytes) front rest is joined some breaks short = absurd (omega (arith, short))
records_broken (suc most) messages before least (call ∷ more) cause (byte ∷ bytes) front rest is joined some breaks short =
    let first = first_record messages before least call more front is in
    let read : record_at messages before least (byte ∷ bytes) ≡ Ok (call, first.back ++ rest) = ap (record_at messages before least) joined ∙ first_read messages before least call more front rest first in
    let less : length (first.back ++ rest) ≤ most = omega (arith, short, ap length joined, length-append front rest, length-append first.back rest, less_behind messages before least call more front first) in
    let others = records_broken most messages call.stamp call.stamp more cause (first.back ++ rest) first.back rest first.rest refl some breaks less in
    rw (read, others) refl

pub body_again : (messages : List Message) (tick last : ℕ) (records : List Call) (body : List ℕ) → IsBody messages tick last records body → body_at messages tick last body ≡ Ok records
body_again messages tick last records body is = records_again (length body) messages tick last records body is (omega arith)

pub body_broken : (messages : List Message) (tick last : ℕ) (cause : BodyCause) (body : List ℕ) → BodyBreak messages tick last body cause → body_at messages tick last body ≡ Err cause
body_broken messages tick last cause body broken =
    records_broken (length body) messages tick last broken.records cause body broken.front broken.rest broken.whole broken.joined broken.more broken.breaks (omega arith)

-- a body spells one list of records
pub IsBody-unique : (messages : List Message) (tick last : ℕ) (xs ys : List Call) (body : List ℕ)
    → IsBody messages tick last xs body → IsBody messages tick last ys body → xs ≡ ys
IsBody-unique messages tick last xs ys body p q =
    (given true causes.RecordCut xs ys (sym (body_again messages tick last xs body p) ∙ body_again messages tick last ys body q)).1

-- whole records that keep the rules break none
pub IsBody-not_broken : (messages : List Message) (tick last : ℕ) (records : List Call) (cause : BodyCause) (body : List ℕ)
    → IsBody messages tick last records body → BodyBreak messages tick last body cause → ⊥
IsBody-not_broken messages tick last records cause body is broken =
    let clash = sym (body_again messages tick last records body is) ∙ body_broken messages tick last cause body broken in cc

-- a body breaks by one cause
pub BodyBreak-unique : (messages : List Message) (tick last : ℕ) (a b : BodyCause) (body : List ℕ)
    → BodyBreak messages tick last body a → BodyBreak messages tick last body b → a ≡ b
BodyBreak-unique messages tick last a b body p q =
    let clash = sym (body_broken messages tick last a body p) ∙ body_broken messages tick last b body q in cc

-- ---- one of the two

abbrev pub OneOfTwo : (messages : List Message) (tick last : ℕ) (body : List ℕ) → Type 0
OneOfTwo messages tick last body = ((records : List Call) × IsBody messages tick last records body) ⊎ ((cause : BodyCause) × BodyBreak messages tick last body cause)

-- what a record is in front of
in_front : (messages : List Message) (tick last : ℕ) (body back : List ℕ) (call : Call) → BeginWith (SpellRecord messages tick last) body call back → OneOfTwo messages call.stamp call.stamp back → OneOfTwo messages tick last body
in_front messages tick last body back call (front, parts, here) (inl (records, is)) =
    inl (call ∷ records, subst (IsBody messages tick last (call ∷ records)) (sym parts) (record_first messages tick last call records front back here is))
in_front messages tick last body back call (front, parts, here) (inr (cause, broken)) =
    inr (
      cause,
      record {
        records = call ∷ broken.records;
        front = front ++ broken.front;
        rest = broken.rest;
        joined = parts ∙ ap (λ (r : List ℕ). front ++ r) broken.joined ∙ sym (append_assoc front broken.front broken.rest);
        whole = record_first messages tick last call broken.records front broken.front here broken.whole;
        more = broken.more;
        breaks = broken.breaks;
      },
    )

by_record : (messages : List Message) (tick last : ℕ) (body : List ℕ) → body ≢ [] → AreBytes body → (read : Parse BodyCause Call) → record_at messages tick last body ≡ read
    → ((call : Call) (back : List ℕ) → length back < length body → AreBytes back → OneOfTwo messages call.stamp call.stamp back) → OneOfTwo messages tick last body
by_record messages tick last body some are_bytes (Err cause) is again =
    inr (cause, record { records = []; front = []; rest = body; joined = refl; whole = record { spelled = refl; right = tt; rising = tt }; more = some; breaks = is })
by_record messages tick last body some are_bytes (Ok (call, back)) is again =
    let taken = (record_format messages tick last).taken body call back are_bytes is in
    in_front messages tick last body back call taken (again call back (some_byte messages tick last call body back taken) (back_bytes body taken.0 back taken.1 are_bytes))

some_reading : (fuel : ℕ) (messages : List Message) (tick last : ℕ) (body : List ℕ) → length body ≤ fuel → AreBytes body → OneOfTwo messages tick last body
some_reading fuel messages tick last [] within are_bytes = inl ([], record { spelled = refl; right = tt; rising = tt })
some_reading zero messages tick last (byte ∷ body) within are_bytes = absurd (omega arith)
some_reading (suc fuel) messages tick last (byte ∷ body) within are_bytes =
    by_record messages tick last (byte ∷ body) (λ none. absurd cc) are_bytes (record_at messages tick last (byte ∷ body)) refl
    (λ call back short back_are. some_reading fuel messages call.stamp call.stamp back (omega arith) back_are)

pub body_or_break : (messages : List Message) (tick last : ℕ) (body : List ℕ) → AreBytes body → OneOfTwo messages tick last body
body_or_break messages tick last body are_bytes = some_reading (length body) messages tick last body (omega arith) are_bytes

-- what is read of bytes is whole records that keep the rules
pub body_taken : (messages : List Message) (tick last : ℕ) (records : List Call) (body : List ℕ) → AreBytes body → body_at messages tick last body ≡ Ok records → IsBody messages tick last records body
body_taken messages tick last records body are_bytes read = elim (body_or_break messages tick last body are_bytes) [
  | inl (others, is) ↦
      let same : others ≡ records = (given true causes.RecordCut others records (sym (body_again messages tick last others body is) ∙ read)).1 in
      subst (λ (l : List Call). IsBody messages tick last l body) same is
  | inr (cause, broken) ↦ absurd (let clash = sym read ∙ body_broken messages tick last cause body broken in cc)
]

-- ---- read again

-- a message keeps its id where more come
still_known : (messages more : List Message) (id : ℕ) (message : Message) → slice_get messages id ≡ Some message → slice_get (messages ++ more) id ≡ Some message
still_known messages more id message known =
    let within = slice_get_within messages id message known in
    slice_get-get_or (messages ++ more) id message (omega (arith, within, length-append messages more))
    ∙ ap Some (get_or-append messages more message id within ∙ get_or_from_slice_get messages id message message known)

still_record : (messages more : List Message) (before least : ℕ) (call : Call) (front : List ℕ) → SpellRecord messages before least call front → SpellRecord (messages ++ more) before least call front
still_record messages more before least call front (spelled, right, rises) = (
  record { message = spelled.message; known = still_known messages more call.id spelled.message spelled.known; spelled = spelled.spelled },
  record { message = right.message; known = still_known messages more call.id right.message right.known; fits = right.fits; short = right.short },
  rises,
)

-- a body is the same one where more messages come
pub still_body : (messages more : List Message) (tick last : ℕ) (records : List Call) (body : List ℕ) → IsBody messages tick last records body → IsBody (messages ++ more) tick last records body
still_body messages more tick last [] body is = record { spelled = is.spelled; right = tt; rising = tt }
still_body messages more tick last (call ∷ others) body is =
    let first = first_record messages tick last call others body is in
    let here = still_record messages more tick last call first.front first.here in
    subst (IsBody (messages ++ more) tick last (call ∷ others)) (sym first.parts)
    (record_first (messages ++ more) tick last call others first.front first.back here (still_body messages more call.stamp call.stamp others first.back first.rest))

-- what a body begins with is read again
pub begins_with : (messages : List Message) (tick last : ℕ) (call : Call) (others : List Call) (body : List ℕ) → IsBody messages tick last (call ∷ others) body → BeginsWithRecord messages tick call others body
begins_with messages tick last call others body is =
    let first = first_record messages tick last call others body is in
    let (spelled, right, rises) = first.here in
    record {
      front = first.front;
      back = first.back;
      joined = first.parts;
      not_before = spelled.spelled.not_before;
      again = λ more least rest within. (record_format (messages ++ more) tick least).again call first.front rest (still_record messages more tick least call first.front (spelled, right, within));
      behind = first.rest;
    }

-- ---- heads and arguments

-- the head of a record is read, and its arguments behind it
record Parted (messages : List Message) (before least : ℕ) (call : Call) (rest bytes : List ℕ) : Type 0 where
  pub back : List ℕ
  pub head : head_at (length messages) before least bytes ≡ Ok (header_of call, back)
  pub arguments : arguments_at (types_of (slice_get messages call.id)) back ≡ Ok (call.args, rest)

same_ok : {A E : Type 0} (x y : A) (a b : Result A E) → a ≡ Ok x → b ≡ Ok y → a ≡ b → x ≡ y
same_ok x y a b first second is = let same : Ok x ≡ Ok y = sym first ∙ is ∙ second in cc

parted : (messages : List Message) (before least : ℕ) (call : Call) (rest bytes : List ℕ) → record_at messages before least bytes ≡ Ok (call, rest) → Parted messages before least call rest bytes
parted messages before least call rest bytes is =
    let start = found (start_at messages before least bytes) _ (call, rest) is in
    let values = found (values_at (types_of (slice_get messages start.x.0.0.id)) start.x.0.1 start.x.1) _ (call, rest) start.second in
    let head = found (head_at (length messages) before least bytes) _ start.x start.first in
    let numbers = found (coded_numbers_at (types_of (slice_get messages head.x.0.id)) head.x.1) _ start.x head.second in
    let made : ((head.x.0, numbers.x.0), numbers.x.1) ≡ start.x = (given _ _ _ start.x numbers.second).1 in
    let whole = same_ok (call_of start.x.0.0 values.x.0, values.x.1) (call, rest) (Ok _) (Ok _) refl refl values.second in
    let starts : head.x.0 ≡ header_of call = λ t. (ap (λ (s : Start × List ℕ). s.0.0) made ∙ ap (λ (p : Call × List ℕ). header_of p.0) whole) t in
    let spelled = subst (λ (s : Start × List ℕ). values_at (types_of (slice_get messages s.0.0.id)) s.0.1 s.1 ≡ Ok values.x) (sym made) values.first in
    let read : arguments_at (types_of (slice_get messages head.x.0.id)) head.x.1 ≡ Ok values.x =
    ap (λ (r : Parse BodyCause (List Number)). r >>= (λ given. values_at (types_of (slice_get messages head.x.0.id)) given.0 given.1)) numbers.first ∙ spelled in
    record {
      back = head.x.1;
      head = head.first ∙ ap (λ (h : RecordHeader). Ok (h, head.x.1)) starts;
      arguments = subst (λ (h : RecordHeader). arguments_at (types_of (slice_get messages h.id)) head.x.1 ≡ Ok (call.args, rest)) starts
          (read ∙ ap (λ (p : Call × List ℕ). Ok (p.0.args, p.1)) whole);
    }

-- what the first record of a body begins with is read first
pub head_first : (messages : List Message) (tick last : ℕ) (call : Call) (others : List Call) (body : List ℕ) → AreBytes body → IsBody messages tick last (call ∷ others) body
    → BeginsWithHead messages tick call others body
head_first messages tick last call others body small is =
    let first = first_record messages tick last call others body is in
    let (spelled, right, rises) = first.here in
    let parts = parted messages tick 0 call first.back body (ap (record_at messages tick 0) first.parts ∙ (record_format messages tick 0).again call first.front first.back (spelled, right, omega arith)) in
    let types = types_of (slice_get messages call.id) in
    let (front, joined, _) = (head_format (length messages) tick 0).taken body (header_of call) parts.back small parts.head in
    let (between, rejoined, _) = (then_format (coded_format types) (values_format types)).taken parts.back call.args first.back (back_bytes body front parts.back joined small) parts.arguments in
    record {
      front = front;
      back = parts.back;
      joined = joined;
      head = parts.head;
      behind = record { right = right; front = between; back = first.back; joined = rejoined; arguments = parts.arguments; behind = first.rest };
    }

-- the same stands behind it where more messages come
pub still_goes_on : (messages more : List Message) (call : Call) (others : List Call) (bytes : List ℕ) → GoesOn messages call others bytes → GoesOn (messages ++ more) call others bytes
still_goes_on messages more call others bytes on =
    let right = on.right in
    let known = still_known messages more call.id right.message right.known in
    record {
      right = record { message = right.message; known = known; fits = right.fits; short = right.short };
      front = on.front;
      back = on.back;
      joined = on.joined;
      arguments = ap (λ (o : Option Message). arguments_at (types_of o) bytes) (known ∙ sym right.known) ∙ on.arguments;
      behind = still_body messages more call.stamp call.stamp others on.back on.behind;
    }
