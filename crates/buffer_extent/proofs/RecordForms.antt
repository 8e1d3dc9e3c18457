-- Records that are read, and their spellings.
use Rattle.std.proofs.Common.{◌≡◌, inl, inr, ℕ, ◌+◌, ◌-◌, ◌*◌, ◌/◌, ◌%◌, ◌<◌, ◌≤◌, ◌^◌, Bool, List, [], ◌∷◌, ◌++◌, length, map, take, Ok, Err, Option, Some, refl, sym, ap, subst, ◌∙◌, append_assoc, append-nil, arith}
use Rattle.std.specs.Prelude.{pos, nat_le, nat_lt, slice_get, ◌&&◌, sum_by}
use Rattle.std.specs.List.{flat_map}
use Rattle.std.proofs.lemmas.Bool.{le-leb, leb-true, lt-ltb, ltb-true, and_parts, and_from}
use Rattle.std.proofs.lemmas.Option.{same_Some, slice_get_within, slice_get_cases}
use Rattle.printf_grammar.specs.declared.arg_type.ArgType.{ArgType}
use Rattle.printf_grammar.specs.Types.{Types, Fits, text_of}
use Rattle.nibble_pack.specs.Bytes.{AreBytes}
use Rattle.nibble_pack.specs.Packing.{unsigned, Packed}
use Rattle.nibble_pack.proofs.lemmas.PackingLaws.{Packed-code}
use Rattle.log_dictionary.specs.declared.message.Message.{Message}
use Rattle.arg_records.specs.declared.frame.TheConstants.{MAX_FRAME_WORDS}
use Rattle.arg_records.specs.declared.call.Call.{Call}
use Rattle.arg_records.specs.Calls.{IsCall}
use Rattle.buffer_extent.specs.declared.fault.BodyCause.{BodyCause}
use Rattle.buffer_extent.specs.declared.fault.BodyCause.TheVariants as causes
use Rattle.buffer_extent.specs.declared.numbers.Number.{Number}
use Rattle.buffer_extent.specs.declared.take.HeadCodes.{HeadCodes}
use Rattle.buffer_extent.specs.declared.take.RecordHeader.{RecordHeader}
use Rattle.nibble_pack.specs.Parsing.{Parse, provided}
use Rattle.arg_records.specs.Frames.{argument_words}
use Rattle.buffer_extent.specs.Records.{PackedNumber, codes_of, packed_bytes, code_bytes}
use Rattle.buffer_extent.specs.Reading.{is_code, MayStand, head_codes_at, stamp_at, head_at, words_taken, types_of, start_at, call_of, record_at}
use Rattle.buffer_extent.specs.Bodies.{SpellsRecord}
use Rattle.nibble_pack.proofs.lemmas.Formats.{IsFormat, respelled, same_reader, byte_format, then_format, made_format, tested_format, checked_format, provided_format, passed_format, SpellEach}
use Rattle.buffer_extent.proofs.PackedNumbers.{unsigned_format}
use Rattle.buffer_extent.proofs.Arguments.{number_for, PacksNumbers, SpellCoded, coded_format, SpellValue, values_format, all_fit, all_spelled, packs_arguments, packs_numbers, words_of_arguments}

-- ---- the head

abbrev halves : ℕ → HeadCodes
halves byte = record { id = byte % 16; step = byte / 16 }

abbrev SpellCodes : HeadCodes → List ℕ → Type 0
SpellCodes codes front = (front ≡ (codes.id + 16 * codes.step) ∷ []) × (codes.id ≤ 8) × (codes.step ≤ 8)

codes_format : IsFormat causes.RecordCut SpellCodes head_codes_at
codes_format =
    respelled (same_reader (tested_format (λ byte. is_code unsigned (byte % 16) && is_code unsigned (byte / 16)) causes.BadNibble halves (byte_format causes.RecordCut)) (elim [ [] ↦ refl | byte ∷ bytes ↦ refl ]))
    (λ codes front are (byte, is, (test, made)).
    let both = and_parts (nat_le (byte % 16) 8) (nat_le (byte / 16) 8) test in
    let whole : byte ≡ byte % 16 + 16 * (byte / 16) = omega arith in
    subst (λ (c : HeadCodes). SpellCodes c front) made (is ∙ ap (λ (b : ℕ). b ∷ []) whole, leb-true (byte % 16) 8 both.0, leb-true (byte / 16) 8 both.1))
    (λ codes front (is, id_few, step_few).
    let first : ℕ = codes.id + 16 * codes.step in
    let low : first % 16 ≡ codes.id = omega (arith, id_few) in
    let high : first / 16 ≡ codes.step = omega (arith, id_few) in
    (first, is, (and_from _ _ (ap (λ (n : ℕ). nat_le n 8) low ∙ le-leb codes.id 8 id_few) (ap (λ (n : ℕ). nat_le n 8) high ∙ le-leb codes.step 8 step_few), λ t. record { id = low t; step = high t })))

-- the step that leads to the stamp from the one before, which isn't below the least
abbrev SpellStep : ℕ → ℕ → ℕ → ℕ → List ℕ → Type 0
SpellStep before least code stamp front = (before ≤ stamp) × (stamp < 2 ^ 64) × (least ≤ stamp) × Packed unsigned (pos (stamp - before)) code front

abbrev rising_at : ℕ → ℕ → List ℕ → Parse BodyCause ℕ
rising_at least stamp bytes = provided (nat_le least stamp) causes.StampFalls (stamp, bytes)

stamp_format : (before least code : ℕ) → IsFormat causes.RecordCut (SpellStep before least code) (stamp_at before least code)
stamp_format before least code =
    respelled (then_format (unsigned_format code) (λ step. provided_format (rising_at least) (nat_lt (before + step) (2 ^ 64)) causes.StampRange (before + step)
    (λ fits. passed_format (nat_le least (before + step)) causes.StampFalls (before + step))))
    (λ stamp front are (step, first, back, joined, packed, (fits, ((rises, is), none))).
    let spelled : first ≡ front = sym (joined ∙ ap (λ (b : List ℕ). first ++ b) none ∙ append-nil first) in
    let same : step ≡ before + step - before = omega arith in
    let own = subst (λ (n : ℕ). Packed unsigned (pos n) code front) same (subst (λ (f : List ℕ). Packed unsigned (pos step) code f) spelled packed) in
    subst (λ (s : ℕ). SpellStep before least code s front) is (omega arith, ltb-true (before + step) (2 ^ 64) fits, leb-true least (before + step) rises, own))
    (λ stamp front (not_before, fits, rises, packed).
    let sum : before + (stamp - before) ≡ stamp = omega (arith, not_before) in
    (stamp - before, front, [], sym (append-nil front), packed, (lt-ltb (before + (stamp - before)) (2 ^ 64) (omega (arith, sum, fits)), ((le-leb least (before + (stamp - before)) (omega (arith, sum, rises)), sum), refl))))

-- the codes of an id and a step in one byte, the id and the step
pub record HasHead (before id stamp : ℕ) (bytes : List ℕ) : Type 0 where
  pub id_number : PackedNumber
  pub step_number : PackedNumber
  pub id_packed : Packed unsigned (pos id) id_number.code id_number.bytes
  pub not_before : before ≤ stamp
  pub stamp_fits : stamp < 2 ^ 64
  pub step_packed : Packed unsigned (pos (stamp - before)) step_number.code step_number.bytes
  pub parts : bytes ≡ (id_number.code + 16 * step_number.code) ∷ (id_number.bytes ++ step_number.bytes)

abbrev pub SpellHead : ℕ → ℕ → ℕ → RecordHeader → List ℕ → Type 0
SpellHead messages before least head front = HasHead before head.id head.stamp front × (head.id < messages) × (least ≤ head.stamp)

abbrev head_of : ℕ → ℕ → RecordHeader
head_of id stamp = record { id = id; stamp = stamp }

pub head_format : (messages before least : ℕ) → IsFormat causes.RecordCut (SpellHead messages before least) (head_at messages before least)
head_format messages before least =
    respelled (then_format codes_format (λ codes. then_format (checked_format (λ id. nat_lt id messages) causes.UnknownId (unsigned_format codes.id)) (λ id. made_format (head_of id) (stamp_format before least codes.step))))
    (λ head front are (codes, a, b, ab, (one, id_few, step_few), (id, c, d, cd, (id_packed, known), (stamp, (not_before, fits, rises, step_packed), made))).
    subst (λ (h : RecordHeader). SpellHead messages before least h front) made (
      record {
        id_number = record { code = codes.id; bytes = c };
        step_number = record { code = codes.step; bytes = d };
        id_packed = id_packed;
        not_before = not_before;
        stamp_fits = fits;
        step_packed = step_packed;
        parts = ab ∙ (λ t. one t ++ cd t);
      },
      ltb-true id messages known,
      rises,
    ))
    (λ head front (has, known, rises).
    let id_few = Packed-code unsigned (pos head.id) has.id_number.code has.id_number.bytes has.id_packed in
    let step_few = Packed-code unsigned (pos (head.stamp - before)) has.step_number.code has.step_number.bytes has.step_packed in
    let codes : HeadCodes = record { id = has.id_number.code; step = has.step_number.code } in
    (codes, _, _, has.parts, (refl, id_few, step_few), (head.id, has.id_number.bytes, has.step_number.bytes, refl, (has.id_packed, lt-ltb head.id messages known), (head.stamp, (has.not_before, has.stamp_fits, rises, has.step_packed), refl))))

-- ---- what a record has in front of its texts

abbrev pub Start : Type 0
Start = RecordHeader × List Number

pub record HasStart (messages : List Message) (before least : ℕ) (start : Start) (bytes : List ℕ) : Type 0 where
  pub message : Message
  pub front : List ℕ
  pub back : List ℕ
  pub parts : bytes ≡ front ++ back
  pub known : slice_get messages start.0.id ≡ Some message
  pub head : HasHead before start.0.id start.0.stamp front
  pub rises : least ≤ start.0.stamp
  pub coded : SpellCoded (Types message.format.pieces) start.1 back
  pub short : 2 + words_taken (Types message.format.pieces) start.1 ≤ MAX_FRAME_WORDS

abbrev types_at : List Message → ℕ → List ArgType
types_at messages id = types_of (slice_get messages id)

abbrev is_short : Option Message → List Number → Bool
is_short message numbers = nat_le (2 + words_taken (types_of message) numbers) MAX_FRAME_WORDS

pub start_format : (messages : List Message) (before least : ℕ) → IsFormat causes.RecordCut (HasStart messages before least) (start_at messages before least)
start_format messages before least =
    respelled (then_format (head_format (length messages) before least) (λ head. tested_format {B = Start} (is_short (slice_get messages head.id)) causes.TooLong (λ numbers. (head, numbers)) (coded_format (types_at messages head.id))))
    (λ start front are (head, first, back, joined, (has, known, rises), (numbers, coded, (short, made))).
    subst (λ (s : Start). HasStart messages before least s front) made (elim ((slice_get_cases messages head.id).1) [
      | inl (message, within, is, _) ↦ record {
        message = message;
        front = first;
        back = back;
        parts = joined;
        known = is;
        head = has;
        rises = rises;
        coded = subst (λ (o : Option Message). SpellCoded (types_of o) numbers back) is coded;
        short = leb-true (2 + words_taken (Types message.format.pieces) numbers) MAX_FRAME_WORDS (ap (λ (o : Option Message). is_short o numbers) (sym is) ∙ short);
      }
      | inr (past, none) ↦ absurd (omega (arith, past, known))
    ]))
    (λ start front has.
    let known = has.known in
    let coded = subst (λ (o : Option Message). SpellCoded (types_of o) start.1 has.back) (sym known) has.coded in
    let short = ap (λ (o : Option Message). is_short o start.1) known ∙ le-leb (2 + words_taken (Types has.message.format.pieces) start.1) MAX_FRAME_WORDS has.short in
    (start.0, has.front, has.back, has.parts, (has.head, slice_get_within messages start.0.id has.message known, has.rises), (start.1, coded, (short, refl))))

-- the numbers of a start may stand for arguments
pub start_stands : (messages : List Message) (before least : ℕ) (bytes back : List ℕ) (head : RecordHeader) (numbers : List Number) (message : Message) (types : List ArgType)
    → AreBytes bytes → start_at messages before least bytes ≡ Ok ((head, take (length (types_of (slice_get messages head.id))) numbers), back)
    → slice_get messages head.id ≡ Some message → types ≡ Types message.format.pieces → MayStand types (take (length types) numbers)
start_stands messages before least bytes back head numbers message types are e known typed =
    let (front, parts, has) = (start_format messages before least).taken bytes (head, take (length (types_of (slice_get messages head.id))) numbers) back are e in
    let same : types_of (slice_get messages head.id) ≡ types = ap types_of known ∙ sym typed in
    let stands : MayStand (Types message.format.pieces) (take (length (types_of (slice_get messages head.id))) numbers) =
    subst (λ (o : Option Message). MayStand (types_of o) (take (length (types_of (slice_get messages head.id))) numbers)) (sym has.known ∙ known) has.coded.2 in
    subst (λ (ts : List ArgType). MayStand types (take (length ts) numbers)) same
    (subst (λ (ts : List ArgType). MayStand ts (take (length (types_of (slice_get messages head.id))) numbers)) (sym typed) stands)

-- ---- records

five_parts : (head : ℕ) (a b c d e : List ℕ) → ((head ∷ (a ++ b)) ++ (c ++ d)) ++ e ≡ head ∷ a ++ b ++ c ++ d ++ e
five_parts head a b c d e = simp append_assoc refl

-- a record that keeps the rules, whose stamp isn't below the least
abbrev pub SpellRecord : List Message → ℕ → ℕ → Call → List ℕ → Type 0
SpellRecord messages before least call front = SpellsRecord messages before call front × IsCall messages call × (least ≤ call.stamp)

pub record_format : (messages : List Message) (before least : ℕ) → IsFormat causes.RecordCut (SpellRecord messages before least) (record_at messages before least)
record_format messages before least =
    respelled (then_format (start_format messages before least) (λ start. made_format (call_of start.0) (values_format (types_at messages start.0.id) start.1)))
    (λ call front are (start, first, texts, joined, has, (args, each, made)).
    let types : List ArgType = Types has.message.format.pieces in
    let (packed, packs, stand, spelled) = has.coded in
    let all = all_fit types start.1 args texts stand (subst (λ (o : Option Message). SpellEach SpellValue (types_of o) start.1 args texts) has.known each) in
    let words : words_taken types start.1 ≡ sum_by argument_words args = ap (words_taken types) (sym all.2) ∙ words_of_arguments types args all.1 in
    let head = has.head in
    let whole = five_parts (head.id_number.code + 16 * head.step_number.code) head.id_number.bytes head.step_number.bytes (code_bytes (codes_of packed)) (packed_bytes packed) (flat_map text_of args) in
    let short = has.short in
    subst (λ (e : Call). SpellRecord messages before least e front) made (
      record {
        message = has.message;
        known = has.known;
        spelled = record {
          id_number = head.id_number;
          step_number = head.step_number;
          numbers = packed;
          id_packed = head.id_packed;
          not_before = head.not_before;
          stamp_fits = head.stamp_fits;
          step_packed = head.step_packed;
          packed = packs_arguments types args packed (subst (λ (ns : List Number). PacksNumbers types ns packed) (sym all.2) packs);
          joined = joined ∙ (λ t. (has.parts ∙ (λ u. head.parts u ++ spelled u)) t ++ all.0 t) ∙ whole;
        };
      },
      record { message = has.message; known = has.known; fits = all.1; short = omega (arith, words, short) },
      has.rises,
    ))
    (λ call front (spells, right, rises).
    let spelled = spells.spelled in
    let types : List ArgType = Types spells.message.format.pieces in
    let same = same_Some right.message spells.message (sym right.known ∙ spells.known) in
    let fits : Fits call.args types = subst (λ (m : Message). Fits call.args (Types m.format.pieces)) same right.fits in
    let numbers = packs_numbers types call.args spelled.numbers spelled.packed fits in
    let first : ℕ = spelled.id_number.code + 16 * spelled.step_number.code in
    let texts : List ℕ = flat_map text_of call.args in
    let has : HasStart messages before least (head_of call.id call.stamp, map number_for call.args) ((first ∷ (spelled.id_number.bytes ++ spelled.step_number.bytes)) ++ (code_bytes (codes_of spelled.numbers) ++ packed_bytes spelled.numbers)) = record {
      message = spells.message;
      front = first ∷ (spelled.id_number.bytes ++ spelled.step_number.bytes);
      back = code_bytes (codes_of spelled.numbers) ++ packed_bytes spelled.numbers;
      parts = refl;
      known = spells.known;
      head = record {
        id_number = spelled.id_number;
        step_number = spelled.step_number;
        id_packed = spelled.id_packed;
        not_before = spelled.not_before;
        stamp_fits = spelled.stamp_fits;
        step_packed = spelled.step_packed;
        parts = refl;
      };
      rises = rises;
      coded = (spelled.numbers, numbers.0, numbers.1, refl);
      short = omega (arith, words_of_arguments types call.args fits, right.short);
    } in
    let whole = five_parts first spelled.id_number.bytes spelled.step_number.bytes (code_bytes (codes_of spelled.numbers)) (packed_bytes spelled.numbers) texts in
    let each = subst (λ (o : Option Message). SpellEach SpellValue (types_of o) (map number_for call.args) call.args texts) (sym spells.known) (all_spelled types call.args fits) in
    ((head_of call.id call.stamp, map number_for call.args), _, texts, spelled.joined ∙ sym whole, has, (call.args, each, refl)))

-- bytes that don't start as a record does give none
pub not_started : (messages : List Message) (before least : ℕ) (bytes : List ℕ) (cause : BodyCause) → start_at messages before least bytes ≡ Err cause → record_at messages before least bytes ≡ Err cause
not_started messages before least bytes cause none = rw none refl
