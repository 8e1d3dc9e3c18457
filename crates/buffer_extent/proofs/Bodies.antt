-- Bodies that are read record by record.
use Rattle.std.proofs.Common.{◌≡◌, inl, inr, ℕ, ◌<◌, Bool, true, false, eqb, List, [], ◌∷◌, ◌++◌, length, Ok, Err, refl, sym, ap, subst, ◌∙◌, append_assoc, append-nil}
use Rattle.std.specs.Prelude.{◌≢◌, ◌⊎◌}
use Rattle.log_dictionary.specs.declared.message.Message.{Message}
use Rattle.nibble_pack.specs.Bytes.{AreBytes, back_bytes}
use Rattle.arg_records.specs.declared.call.Call.{Call}
use Rattle.arg_records.specs.Calls.{last_stamp}
use Rattle.buffer_extent.specs.declared.fault.BodyCause.{BodyCause}
use Rattle.buffer_extent.specs.Reading.{start_at, record_at}
use Rattle.buffer_extent.specs.Bodies.{IsBody, BodyBreak, IsDamage}
use Rattle.buffer_extent.specs.declared.fault.BodyFault.{BodyFault}
use Rattle.buffer_extent.specs.declared.fault.BodyFault.TheVariants.{Damaged, NoMemory}
use Rattle.arg_records.proofs.lemmas.CallLists.{last_stamp-push}
use Rattle.buffer_extent.proofs.RecordForms.{record_format, not_started}
use Rattle.buffer_extent.proofs.lemmas.BodyLaws.{read_or_broken, record_first, first_record, first_read, some_byte, IsBody-not_broken, BodyBreak-unique}

-- ---- reading on

-- These records were read, and this is left: a body of it comes behind them.
pub record AreReadSoFar (messages : List Message) (tick last : ℕ) (body : List ℕ) (records : List Call) (before least : ℕ) (rest : List ℕ) : Type 0 where
  pub front : List ℕ
  pub joined : body ≡ front ++ rest
  pub so_far : (more : List Call) (behind : List ℕ) → IsBody messages before least more behind → IsBody messages tick last (records ++ more) (front ++ behind)
  pub before_is : before ≡ last_stamp tick records
  pub least_is : least ≡ last_stamp last records

-- bytes aren't empty that were tested so
pub some_left : (bytes : List ℕ) (empty : Bool) → empty ≡ eqb (length bytes) 0 → empty ≡ false → bytes ≡ [] → ⊥
some_left bytes empty is not none = let clash : true ≡ false = sym (ap (λ (b : List ℕ). eqb (length b) 0) none) ∙ sym is ∙ not in cc

pub none_read : (messages : List Message) (tick last : ℕ) (body : List ℕ) → AreReadSoFar messages tick last body [] tick last body
none_read messages tick last body = record { front = []; joined = refl; so_far = λ more behind is. is; before_is = refl; least_is = refl }

whole_front : (messages : List Message) (tick last : ℕ) (body : List ℕ) (records : List Call) (before least : ℕ) (rest : List ℕ) → (so_far : AreReadSoFar messages tick last body records before least rest) → IsBody messages tick last records so_far.front
whole_front messages tick last body records before least rest so_far =
    subst (λ (f : List ℕ). IsBody messages tick last records f) (append-nil so_far.front)
    (subst (λ (es : List Call). IsBody messages tick last es (so_far.front ++ [])) (append-nil records) (so_far.so_far [] [] (record { spelled = refl; right = tt; rising = tt })))

-- one record more was read
pub one_read : (messages : List Message) (tick last : ℕ) (body : List ℕ) (records : List Call) (before least : ℕ) (rest : List ℕ) (call : Call) (back : List ℕ) → AreReadSoFar messages tick last body records before least rest → AreBytes body
    → record_at messages before least rest ≡ Ok (call, back) → AreReadSoFar messages tick last body (records ++ call ∷ []) call.stamp call.stamp back
one_read messages tick last body records before least rest call back so_far are_bytes read =
    let (front, parts, here) = (record_format messages before least).taken rest call back (back_bytes body so_far.front rest so_far.joined are_bytes) read in
    record {
      front = so_far.front ++ front;
      joined = so_far.joined ∙ ap (λ (r : List ℕ). so_far.front ++ r) parts ∙ sym (append_assoc so_far.front front back);
      so_far = λ more behind is.
          let all = so_far.so_far (call ∷ more) (front ++ behind) (record_first messages before least call more front behind here is) in
          let joined = subst (IsBody messages tick last (records ++ call ∷ more)) (sym (append_assoc so_far.front front behind)) all in
          subst (λ (es : List Call). IsBody messages tick last es ((so_far.front ++ front) ++ behind)) (sym (append_assoc records (call ∷ []) more)) joined;
      before_is = sym (last_stamp-push tick records call);
      least_is = sym (last_stamp-push last records call);
    }

-- nothing is left
pub all_read : (messages : List Message) (tick last : ℕ) (body : List ℕ) (records : List Call) (before least : ℕ) (rest : List ℕ) → AreReadSoFar messages tick last body records before least rest → rest ≡ [] → IsBody messages tick last records body
all_read messages tick last body records before least rest so_far none =
    subst (IsBody messages tick last records) (sym (so_far.joined ∙ ap (λ (r : List ℕ). so_far.front ++ r) none ∙ append-nil so_far.front)) (whole_front messages tick last body records before least rest so_far)

-- what is left breaks
pub body_breaks : (messages : List Message) (tick last : ℕ) (body : List ℕ) (records : List Call) (before least : ℕ) (rest : List ℕ) (cause : BodyCause) → AreReadSoFar messages tick last body records before least rest → rest ≢ []
    → record_at messages before least rest ≡ Err cause → BodyBreak messages tick last body cause
body_breaks messages tick last body records before least rest cause so_far some breaks = record {
  records = records;
  front = so_far.front;
  rest = rest;
  joined = so_far.joined;
  whole = whole_front messages tick last body records before least rest so_far;
  more = some;
  breaks = (λ t. record_at messages (sym so_far.before_is t) (sym so_far.least_is t) rest) ∙ breaks;
}

-- where the body doesn't start as a record does, nothing was read
pub untouched : (messages : List Message) (tick last : ℕ) (body : List ℕ) (records : List Call) (before least : ℕ) (rest : List ℕ) (cause : BodyCause) → AreReadSoFar messages tick last body records before least rest → start_at messages tick last body ≡ Err cause
    → (rest ≡ body) × (start_at messages before least rest ≡ Err cause)
untouched messages tick last body [] before least rest cause so_far none =
    let front : so_far.front ≡ [] = (whole_front messages tick last body [] before least rest so_far).spelled in
    let same : rest ≡ body = sym (so_far.joined ∙ ap (λ (f : List ℕ). f ++ rest) front) in
    (same, (λ t. start_at messages (so_far.before_is t) (so_far.least_is t) (same t)) ∙ none)
untouched messages tick last body (call ∷ records) before least rest cause so_far none =
    let first = first_record messages tick last call records so_far.front (whole_front messages tick last body (call ∷ records) before least rest so_far) in
    let read = ap (record_at messages tick last) so_far.joined ∙ first_read messages tick last call records so_far.front rest first in
    absurd (read_or_broken (record_at messages tick last body) call (first.back ++ rest) cause read (not_started messages tick last body cause none))

-- nothing else can be told of a body that was read, or of one that breaks

pub only_memory : (messages : List Message) (tick last : ℕ) (body : List ℕ) (records : List Call) (before least : ℕ) (rest : List ℕ) (fault : BodyFault) → AreReadSoFar messages tick last body records before least rest → rest ≢ []
    → IsDamage (λ cause. record_at messages before least rest ≡ Err cause) fault → (all : List Call) → IsBody messages tick last all body → fault ≡ NoMemory
only_memory messages tick last body records before least rest (Damaged cause) so_far some damage all is =
    absurd (IsBody-not_broken messages tick last all cause body is (body_breaks messages tick last body records before least rest cause so_far some damage))
only_memory messages tick last body records before least rest NoMemory so_far some damage all is = refl

pub one_fault : (messages : List Message) (tick last : ℕ) (body : List ℕ) (records : List Call) (before least : ℕ) (rest : List ℕ) (fault : BodyFault) → AreReadSoFar messages tick last body records before least rest → rest ≢ []
    → IsDamage (λ cause. record_at messages before least rest ≡ Err cause) fault → (cause : BodyCause) → BodyBreak messages tick last body cause → (fault ≡ Damaged cause) ⊎ (fault ≡ NoMemory)
one_fault messages tick last body records before least rest (Damaged found) so_far some damage cause broken =
    inl (ap Damaged (BodyBreak-unique messages tick last found cause body (body_breaks messages tick last body records before least rest found so_far some damage) broken))
one_fault messages tick last body records before least rest NoMemory so_far some damage cause broken = inr refl

-- an empty body is no records
pub no_records : (messages : List Message) (tick last : ℕ) (body : List ℕ) → body ≡ [] → IsBody messages tick last [] body
no_records messages tick last body empty = record { spelled = empty; right = tt; rising = tt }

-- each record takes a byte
pub read_shorter : (messages : List Message) (tick last : ℕ) (body : List ℕ) (records : List Call) (before least : ℕ) (rest : List ℕ) (call : Call) (back : List ℕ) → AreReadSoFar messages tick last body records before least rest → AreBytes body
    → record_at messages before least rest ≡ Ok (call, back) → length back < length rest
read_shorter messages tick last body records before least rest call back so_far are_bytes read =
    some_byte messages before least call rest back ((record_format messages before least).taken rest call back (back_bytes body so_far.front rest so_far.joined are_bytes) read)

-- what gave a record started as one
pub started : (messages : List Message) (before least : ℕ) (bytes back : List ℕ) (call : Call) (cause : BodyCause) → record_at messages before least bytes ≡ Ok (call, back) → start_at messages before least bytes ≡ Err cause → ⊥
started messages before least bytes back call cause read none = read_or_broken (record_at messages before least bytes) call back cause read (not_started messages before least bytes cause none)
