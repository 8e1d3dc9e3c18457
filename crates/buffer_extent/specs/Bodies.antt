-- The body of an extent: records that stand one behind the other.
use Rattle.std.specs.Prelude.{◌≡◌, ◌≢◌, ℕ, zero, suc, ◌≤◌, List, [], ◌∷◌, ◌++◌, length, Some, Result, Ok, Err, slice_get, ⊤}
use Rattle.std.specs.List.{AllByRecursion}
use Rattle.printf_grammar.specs.Types.{Types}
use Rattle.log_dictionary.specs.declared.message.Message.{Message}
use Rattle.arg_records.specs.Calls.{IsCall, NeverFalls, last_stamp}
use Rattle.arg_records.specs.declared.call.Call.{Call}
use Rattle.buffer_extent.specs.declared.fault.BodyCause.{BodyCause}
use Rattle.buffer_extent.specs.declared.fault.BodyCause.TheVariants as causes
use Rattle.buffer_extent.specs.declared.fault.BodyFault.{BodyFault}
use Rattle.buffer_extent.specs.declared.fault.BodyFault.TheVariants.{Damaged, NoMemory}
use Rattle.nibble_pack.specs.Parsing.{◌>>=◌}
use Rattle.buffer_extent.specs.Records.{RecordBytes}
use Rattle.buffer_extent.specs.Reading.{types_of, header_of, head_at, arguments_at, record_at}

-- the bytes spell the record, whose id names one of the messages; its step counts from the stamp before
pub record SpellsRecord (messages : List Message) (before : ℕ) (call : Call) (bytes : List ℕ) : Type 0 where
  pub message : Message
  pub known : slice_get messages call.id ≡ Some message
  pub spelled : RecordBytes (Types message.format.pieces) call.id call.stamp before call.args bytes

-- the bytes are the records' spellings, joined; the first step counts from this stamp, and each other from the record
-- in front
abbrev pub SpellsRecords : List Message → ℕ → List Call → List ℕ → Type 0
SpellsRecords messages before [] bytes = bytes ≡ []
SpellsRecords messages before (call ∷ records) bytes =
    (front : List ℕ) × (back : List ℕ) × (bytes ≡ front ++ back)
    × SpellsRecord messages before call front × SpellsRecords messages call.stamp records back

-- The body is whole records that keep the rules: the first step counts from the clock's tick, and no stamp is below the
-- writer's last one.
pub record IsBody (messages : List Message) (tick last : ℕ) (records : List Call) (body : List ℕ) : Type 0 where
  pub spelled : SpellsRecords messages tick records body
  pub right : AllByRecursion (IsCall messages) records
  pub rising : NeverFalls last records

-- the body begins with whole records that keep the rules, and what follows breaks by the cause
pub record BodyBreak (messages : List Message) (tick last : ℕ) (body : List ℕ) (cause : BodyCause) : Type 0 where
  pub records : List Call
  pub front : List ℕ
  pub rest : List ℕ
  pub joined : body ≡ front ++ rest
  pub whole : IsBody messages tick last records front
  pub more : rest ≢ []
  pub breaks : record_at messages (last_stamp tick records) (last_stamp last records) rest ≡ Err cause

-- The bytes are a record's, and behind it a body of the others. The record is read again whatever stands behind it, and
-- where more messages came: the least stamp may be any that isn't above its own, as the one before.
pub record BeginsWithRecord (messages : List Message) (before : ℕ) (call : Call) (others : List Call)
    (bytes : List ℕ) : Type 0 where
  pub front : List ℕ
  pub back : List ℕ
  pub joined : bytes ≡ front ++ back
  pub not_before : before ≤ call.stamp
  pub again : (more : List Message) (least : ℕ) (rest : List ℕ) → least ≤ call.stamp
      → record_at (messages ++ more) before least (front ++ rest) ≡ Ok (call, rest)
  pub behind : IsBody messages call.stamp call.stamp others back

-- The bytes stand behind what the call's record begins with: its arguments, and then a body of the others.
pub record GoesOn (messages : List Message) (call : Call) (others : List Call) (bytes : List ℕ) : Type 0 where
  pub right : IsCall messages call
  pub front : List ℕ
  pub back : List ℕ
  pub joined : bytes ≡ front ++ back
  pub arguments : arguments_at (types_of (slice_get messages call.id)) bytes ≡ Ok (call.args, back)
  pub behind : IsBody messages call.stamp call.stamp others back

-- The bytes are what the call's record begins with, which is read where no least stamp is asked for, and behind it what
-- follows.
pub record BeginsWithHead (messages : List Message) (before : ℕ) (call : Call) (others : List Call)
    (bytes : List ℕ) : Type 0 where
  pub front : List ℕ
  pub back : List ℕ
  pub joined : bytes ≡ front ++ back
  pub head : head_at (length messages) before 0 bytes ≡ Ok (header_of call, back)
  pub behind : GoesOn messages call others back

-- ---- bodies as they are read

-- records to the end of the bytes, no more than so many; each counts from the one in front
abbrev pub records_to_end : ℕ → List Message → ℕ → ℕ → List ℕ → Result (List Call) BodyCause
records_to_end most messages before least [] = Ok []
records_to_end zero messages before least (byte ∷ bytes) = Err causes.RecordCut
records_to_end (suc most) messages before least (byte ∷ bytes) = do
  call ← record_at messages before least (byte ∷ bytes)
  others ← records_to_end most messages call.0.stamp call.0.stamp call.1
  Ok (call.0 ∷ others)

-- the records of a body, or the first cause by which it breaks; there are no more records than bytes
abbrev pub body_at : List Message → ℕ → ℕ → List ℕ → Result (List Call) BodyCause
body_at messages tick last body = records_to_end (length body) messages tick last body

-- ---- what is told of them

-- the bytes are damaged so; want of memory says nothing of them
abbrev pub IsDamage : (BodyCause → Type 0) → BodyFault → Type 0
IsDamage Breaks (Damaged cause) = Breaks cause
IsDamage Breaks NoMemory = ⊤
