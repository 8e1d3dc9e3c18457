-- The frame of a call, and the record that is written of it.
use Rattle.std.proofs.Common.{◌≡◌, ℕ, ◌+◌, ◌-◌, ◌*◌, ◌/◌, ◌<◌, ◌≤◌, ◌^◌, List, [], ◌∷◌, ◌++◌, length, take, drop, get_or, refl, sym, ap, subst, ◌∙◌, append_assoc, arith, rules}
use Rattle.std.proofs.lemmas.List.{length-append, take_rest}
use Rattle.std.proofs.lemmas.List.Sums.{sum_by-cons}
use Rattle.std.proofs.lemmas.Int.{ints}
use Rattle.std.specs.Prelude.{ℤ, pos, negsuc, sum_by, All, FitsSigned}
use Rattle.std.specs.Int.{w32}
use Rattle.std.specs.List.{flat_map}
use Rattle.printf_grammar.specs.declared.arg_type.ArgType.{ArgType}
use Rattle.printf_grammar.specs.declared.arg_type.ArgType.TheVariants as argument_types
use Rattle.printf_grammar.specs.declared.argument.Value.{Value}
use Rattle.printf_grammar.specs.declared.argument.Value.TheVariants as values
use Rattle.printf_grammar.specs.Types.{FitsType, Fits, text_of}
use Rattle.arg_records.specs.Frames.{IsStaged, IsFrame, argument_words, FrameLen, Frame}
use Rattle.arg_records.specs.Kinds.{HoldsBytes}
use Rattle.arg_records.specs.Places.{with_words}
use Rattle.arg_records.proofs.lemmas.Fitted.{AreArguments-from_Fits}
use Rattle.arg_records.proofs.lemmas.Lengths.{length-Frame}
use Rattle.arg_records.proofs.lemmas.Places.{words_first}
use Rattle.nibble_pack.specs.Packing.{unsigned, signed, IsWide, PacksSigned, small, negative, wide, Packed}
use Rattle.nibble_pack.specs.Bytes.{length-bytes_low_first}
use Rattle.nibble_pack.proofs.lemmas.PackingLaws.{Packed-length, Packed-short}
use Rattle.buffer_extent.specs.Records.{PackedNumber, kind_of, packed_value, PacksArguments, code_bytes, RecordBytes, codes_of, packed_bytes}
use Rattle.buffer_extent.specs.Writing.{AreWordsOf, IsFrameSince, HeadBytes, number_room, record_room}

-- ---- the call of a frame

-- whatever call this is the frame of, it is one that is staged, and the stamp isn't before
pub is_staged : (types : List ArgType) (before : ℕ) (frame : List ℕ) → IsFrameSince types before frame → length types ≤ 64 → ((i : ℕ) → get_or frame i 0 < 2 ^ 64)
    → (id stamp : ℕ) (args : List Value) → Fits args types → frame ≡ Frame id stamp args → IsStaged id stamp args × (before ≤ stamp) × (id < 65536)
is_staged types before frame since few words id stamp args fits is =
    let same : Frame id stamp args ≡ Frame since.id since.stamp since.args = sym is ∙ since.is in
    let len : FrameLen args ≡ FrameLen since.args = sym (length-Frame id stamp args) ∙ ap length same ∙ length-Frame since.id since.stamp since.args in
    let firsts : id * 65536 + FrameLen args ≡ since.id * 65536 + FrameLen since.args = ap (λ (f : List ℕ). get_or f 0 0) same in
    let stamps : stamp ≡ since.stamp = ap (λ (f : List ℕ). get_or f 1 0) same in
    let word : get_or frame 1 0 ≡ stamp = ap (λ (f : List ℕ). get_or f 1 0) is in
    let below = words 1 in
    let in_range = since.id_in_range in
    let not_before = since.not_before in
    let within = since.within in
    let ids : id ≡ since.id = omega arith in
    let staged : IsStaged id stamp args = record { id_in_range = omega arith; stamp_in_range = omega arith; arguments = AreArguments-from_Fits args types fits few; within = omega arith } in
    (staged, omega arith, omega arith)

pub is_frame : (types : List ArgType) (before : ℕ) (frame : List ℕ) → IsFrameSince types before frame → length types ≤ 64 → ((i : ℕ) → get_or frame i 0 < 2 ^ 64) → IsFrame frame
is_frame types before frame since few words = (since.id, since.stamp, since.args, (is_staged types before frame since few words since.id since.stamp since.args since.fits since.is).0, since.is)

-- the words behind the head of a frame are those of the arguments
pub frame_arguments : (types : List ArgType) (frame : List ℕ) (id stamp : ℕ) (args : List Value) → Fits args types → All HoldsBytes args → frame ≡ Frame id stamp args → AreWordsOf types args (take (length frame - 2) (drop 2 frame))
frame_arguments types frame id stamp args fits bytes is = record { fits = fits; bytes = bytes; is = take_rest frame 2 ∙ ap (drop 2) is }

-- a frame has its head
pub frame_length : (types : List ArgType) (before : ℕ) (frame : List ℕ) (since : IsFrameSince types before frame) → length frame ≡ FrameLen since.args
frame_length types before frame since = ap length since.is ∙ length-Frame since.id since.stamp since.args

-- ---- room

unsigned_room : (n code room : ℕ) (bytes : List ℕ) → Packed unsigned (pos n) code bytes → n < 256 ^ room → length bytes ≤ room
unsigned_room n code room bytes (m, is, packs) below =
    let same : n ≡ m = cc in
    let count = packs.count.least room (subst (λ (k : ℕ). k < 256 ^ room) same below) in
    omega (arith, Packed-length unsigned (pos m) code bytes (m, refl, packs))

signed_room : (z : ℤ) (code room : ℕ) (bytes : List ℕ) → PacksSigned z code bytes → (IsWide z → ⊥) → ((n : ℕ) → z ≡ pos n → n < 256 ^ room) → ((n : ℕ) → z ≡ negsuc n → n < 256 ^ room) → length bytes ≤ room
signed_room z code room bytes (small n is below least spelled) narrow high low = let count = least.least room (high n is) in omega (arith, ap length spelled, length-bytes_low_first 0 code n)
signed_room z code room bytes (negative n count is below least of_code spelled) narrow high low = let counts = least.least room (low n is) in omega (arith, ap length spelled, length-bytes_low_first 0 count n)
signed_room z code room bytes (wide is of_code spelled) narrow high low = absurd (narrow is)

int_narrow : (z : ℤ) → FitsSigned w32 z → IsWide z → ⊥
int_narrow (pos m) fits w = omega (arith, ints)
int_narrow (negsuc m) fits w = omega (arith, ints)

width_narrow : (z : ℤ) → FitsType (values.Signed z) argument_types.Width → IsWide z → ⊥
width_narrow (pos m) fits w = omega (arith, ints)
width_narrow (negsuc m) fits w = omega (arith, ints)

int_high : (n : ℕ) → FitsSigned w32 (pos n) → n < 256 ^ 4
int_high n fits = omega (arith, ints)

int_low : (n : ℕ) → FitsSigned w32 (negsuc n) → n < 256 ^ 4
int_low n fits = omega (arith, ints)

width_high : (n : ℕ) → FitsType (values.Signed (pos n)) argument_types.Width → n < 256 ^ 2
width_high n fits = omega (arith, ints)

width_low : (n : ℕ) → FitsType (values.Signed (negsuc n)) argument_types.Width → n < 256 ^ 2
width_low n fits = omega (arith, ints)

int_room : (z : ℤ) (code : ℕ) (bytes : List ℕ) → FitsSigned w32 z → PacksSigned z code bytes → length bytes ≤ 4
int_room z code bytes fits packed =
    signed_room z code 4 bytes packed (int_narrow z fits) (λ n is. int_high n (subst (FitsSigned w32) is fits)) (λ n is. int_low n (subst (FitsSigned w32) is fits))

width_room : (z : ℤ) (code : ℕ) (bytes : List ℕ) → FitsType (values.Signed z) argument_types.Width → PacksSigned z code bytes → length bytes ≤ 2
width_room z code bytes fits packed =
    let at : ℤ → Type 0 = λ z. FitsType (values.Signed z) argument_types.Width in
    signed_room z code 2 bytes packed (width_narrow z fits) (λ n is. width_high n (subst at is fits)) (λ n is. width_low n (subst at is fits))

room_of_number : (type : ArgType) (value : Value) (code : ℕ) (bytes : List ℕ) → FitsType value type → Packed (kind_of type) (packed_value value) code bytes → length bytes ≤ number_room type
room_of_number argument_types.Int (values.Signed z) code bytes fits packed = int_room z code bytes fits packed
room_of_number argument_types.UInt (values.Unsigned n) code bytes fits packed = unsigned_room n code 4 bytes packed (omega arith)
room_of_number argument_types.Long value code bytes fits packed = Packed-short signed (packed_value value) code bytes packed
room_of_number argument_types.ULong value code bytes fits packed = Packed-short unsigned (packed_value value) code bytes packed
room_of_number argument_types.Width (values.Signed z) code bytes fits packed = width_room z code bytes fits packed
room_of_number argument_types.Precision (values.Signed z) code bytes fits packed = int_room z code bytes fits.0 packed
room_of_number argument_types.Text (values.Text text) code bytes fits packed = let short = fits.short in unsigned_room (length text) code 2 bytes packed (omega arith)
room_of_number _ _ code bytes fits packed = absurd fits

-- the numbers of arguments have room
pub numbers_room : (types : List ArgType) (args : List Value) (numbers : List PackedNumber) → Fits args types → PacksArguments types args numbers → length (packed_bytes numbers) ≤ sum_by number_room types
numbers_room [] [] [] fits packed = omega arith
numbers_room (type ∷ types) (arg ∷ args) (number ∷ numbers) fits packed =
    omega (arith, sum_by-cons number_room type types, length-append number.bytes (packed_bytes numbers), room_of_number type arg number.code number.bytes fits.0 packed.0, numbers_room types args numbers fits.1 packed.1)
numbers_room _ _ _ fits packed = absurd (search rules)

-- an argument has at most eight bytes for each of its words
room_of_words : (type : ArgType) (value : Value) → FitsType value type → number_room type + length (text_of value) ≤ 8 * argument_words value
room_of_words argument_types.Int (values.Signed z) fits = omega arith
room_of_words argument_types.UInt (values.Unsigned n) fits = omega arith
room_of_words argument_types.Long (values.Signed z) fits = omega arith
room_of_words argument_types.ULong (values.Unsigned n) fits = omega arith
room_of_words argument_types.Width (values.Signed z) fits = omega arith
room_of_words argument_types.Precision (values.Signed z) fits = omega arith
room_of_words argument_types.Text (values.Text text) fits = omega arith
room_of_words _ _ fits = absurd fits

arguments_room : (types : List ArgType) (args : List Value) → Fits args types → sum_by number_room types + length (flat_map text_of args) ≤ 8 * sum_by argument_words args
arguments_room [] [] fits = omega arith
arguments_room (type ∷ types) (arg ∷ args) fits =
    omega (arith, sum_by-cons number_room type types, sum_by-cons argument_words arg args, length-append (text_of arg) (flat_map text_of args), room_of_words type arg fits.0, arguments_room types args fits.1)
arguments_room _ _ fits = absurd fits

-- a record has at most eight bytes for each word of its frame, and 27
pub record_short : (types : List ArgType) (args : List Value) → Fits args types → length types ≤ 64 → record_room types args ≤ 27 + 8 * FrameLen args
record_short types args fits few = omega (arith, arguments_room types args fits)

-- ---- the parts, written one behind another

six_parts : (codes : ℕ) (ids steps cs ns ts : List ℕ) → (codes ∷ (ids ++ steps)) ++ cs ++ ns ++ ts ≡ codes ∷ ids ++ steps ++ cs ++ ns ++ ts
six_parts codes ids steps cs ns ts = refl

pub record_written : (types : List ArgType) (id stamp before : ℕ) (args : List Value) (numbers : List PackedNumber) (head old with_head with_codes with_numbers new : List ℕ) (at p q r end : ℕ)
    → Fits args types → PacksArguments types args numbers → HeadBytes id (stamp - before) head → before ≤ stamp → stamp < 2 ^ 64 → at ≤ length old → length head ≤ 11 → length types ≤ 64 → length (code_bytes (codes_of numbers)) ≤ (length types + 1) / 2
    → with_head ≡ with_words old at head → p ≡ at + length head → with_codes ≡ with_words with_head p (code_bytes (codes_of numbers)) → q ≡ p + length (code_bytes (codes_of numbers))
    → with_numbers ≡ with_words with_codes q (packed_bytes numbers) → r ≡ q + length (packed_bytes numbers) → new ≡ with_words with_numbers r (flat_map text_of args) → end ≡ r + length (flat_map text_of args)
    → (bytes : List ℕ) × RecordBytes types id stamp before args bytes × (length bytes ≤ record_room types args) × (new ≡ take at old ++ bytes ++ drop (at + length bytes) old) × (end ≡ at + length bytes)
record_written types id stamp before args numbers head old with_head with_codes with_numbers new at p q r end fits packed is not_before in_range room short few codes_short head_is p_is codes_are q_is numbers_are r_is new_is end_is =
    let cs : List ℕ = code_bytes (codes_of numbers) in
    let ns : List ℕ = packed_bytes numbers in
    let ts : List ℕ = flat_map text_of args in
    let bytes : List ℕ = head ++ cs ++ ns ++ ts in
    let len = length-append head cs in
    let len_numbers = length-append (head ++ cs) ns in
    let len_all = length-append (head ++ cs ++ ns) ts in
    let two : with_codes ≡ with_words old at (head ++ cs) = codes_are ∙ ap (λ (b : List ℕ). with_words b p cs) head_is ∙ words_first old at p head cs (sym p_is) room in
    let three : with_numbers ≡ with_words old at (head ++ cs ++ ns) = numbers_are ∙ ap (λ (b : List ℕ). with_words b q ns) two ∙ words_first old at q (head ++ cs) ns (omega arith) room in
    let four : new ≡ with_words old at bytes = new_is ∙ ap (λ (b : List ℕ). with_words b r ts) three ∙ words_first old at r (head ++ cs ++ ns) ts (omega arith) room in
    let spelled : RecordBytes types id stamp before args bytes = record {
      id_number = is.id_number;
      step_number = is.step_number;
      numbers = numbers;
      id_packed = is.id_packed;
      not_before = not_before;
      stamp_fits = in_range;
      step_packed = is.step_packed;
      packed = packed;
      joined = ap (λ (h : List ℕ). h ++ cs ++ ns ++ ts) is.joined ∙ six_parts (is.id_number.code + 16 * is.step_number.code) is.id_number.bytes is.step_number.bytes cs ns ts;
    } in
    let numbers_short = numbers_room types args numbers fits packed in
    (bytes, spelled, omega arith, four ∙ sym (append_assoc (take at old) bytes (drop (at + length bytes) old)), omega arith)
