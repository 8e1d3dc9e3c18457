-- Words as packed numbers.
use Rattle.std.proofs.Common.{◌≡◌, ℕ, zero, suc, ◌+◌, ◌-◌, ◌/◌, ◌<◌, ◌≤◌, ◌^◌, List, [], ◌∷◌, ◌++◌, length, take, drop, replicate, get_or, refl, sym, ap, subst, ◌∙◌, arith}
use Rattle.std.proofs.lemmas.List.{length-append, length-replicate, length-take-le, take-append-drop, drop_more}
use Rattle.std.proofs.lemmas.List.Elements.{All-head, All-tail, All-append, All-replicate}
use Rattle.std.proofs.lemmas.Int.{ints, to_z-of_z, of_z-to_z}
use Rattle.std.specs.Prelude.{ℤ, pos, negsuc, FitsSigned, All}
use Rattle.std.specs.Int.{w64, cast_signed, cast_unsigned, to_le_bytes, from_le_bytes, bytes_low_first}
use Rattle.std.specs.List.{flat_map}
use Rattle.printf_grammar.specs.declared.arg_type.ArgType.{ArgType}
use Rattle.printf_grammar.specs.declared.arg_type.ArgType.TheVariants as argument_types
use Rattle.printf_grammar.specs.declared.argument.Value.{Value}
use Rattle.printf_grammar.specs.declared.argument.Value.TheVariants as values
use Rattle.printf_grammar.specs.Types.{FitsType, Fits}
use Rattle.printf_grammar.proofs.lemmas.Fitting.{Fits-length}
use Rattle.arg_records.specs.Frames.{words_of_argument}
use Rattle.arg_records.specs.Kinds.{HoldsBytes}
use Rattle.nibble_pack.specs.declared.pack.Packed.{Packed as PackedBytes}
use Rattle.nibble_pack.specs.Bytes.{AreBytes, number_of_bytes, length-bytes_low_first, low_first-number_of_bytes, from_le_bytes-number}
use Rattle.nibble_pack.specs.Packing.{Kind, unsigned, signed, byte_count, Packed}
use Rattle.nibble_pack.proofs.lemmas.PackingLaws.{Packed-length, Packed-bytes}
use Rattle.buffer_extent.specs.Records.{PackedNumber, kind_of, packed_value, PacksArguments, code_bytes, codes_of}
use Rattle.buffer_extent.proofs.PackedNumbers.{numbers_are_as_many}
use Rattle.buffer_extent.specs.Writing.{BeginsWithWords, HasItsBytes}
use Rattle.buffer_extent.proofs.lemmas.Codes.{length-code_bytes}

-- ---- one word

width_fits : (z : ℤ) → FitsType (values.Signed z) argument_types.Width → FitsSigned w64 z
width_fits (pos n) fits = record { sfits = omega (arith, ints) }
width_fits (negsuc n) fits = record { sfits = omega (arith, ints) }

signed_fits : (type : ArgType) (z : ℤ) → FitsType (values.Signed z) type → FitsSigned w64 z
signed_fits argument_types.Int z fits = record { sfits = omega arith }
signed_fits argument_types.Long z fits = fits
signed_fits argument_types.Width z fits = width_fits z fits
signed_fits argument_types.Precision z fits = record { sfits = omega arith }
signed_fits _ z fits = absurd fits

signed_value_packed : (type : ArgType) (word : ℕ) (code : ℕ) (bytes : List ℕ) → kind_of type ≡ signed → Packed signed (cast_signed w64 word) code bytes
    → (value : Value) (more : List ℕ) → FitsType value type → words_of_argument value ≡ word ∷ more → Packed (kind_of type) (packed_value value) code bytes
signed_value_packed type word code bytes kind packed (values.Signed z) more fits is =
    let of_word : cast_unsigned w64 z ≡ word = cc in
    let number : z ≡ cast_signed w64 word = sym (to_z-of_z w64 z (signed_fits type z fits)) ∙ ap (cast_signed w64) of_word in
    subst (λ (k : Kind). Packed k z code bytes) (sym kind) (subst (λ (v : ℤ). Packed signed v code bytes) (sym number) packed)
signed_value_packed argument_types.UInt word code bytes kind packed _ more fits is = cc
signed_value_packed argument_types.ULong word code bytes kind packed _ more fits is = cc
signed_value_packed argument_types.Text word code bytes kind packed _ more fits is = cc
signed_value_packed _ word code bytes kind packed _ more fits is = absurd fits

pub signed_word : (type : ArgType) (word : ℕ) (number : ℤ) (code : ℕ) (bytes : List ℕ) → kind_of type ≡ signed → number ≡ cast_signed w64 word → word < 2 ^ 64
    → Packed signed (cast_signed w64 (cast_unsigned w64 number)) code bytes → (value : Value) (more : List ℕ) → FitsType value type → words_of_argument value ≡ word ∷ more → Packed (kind_of type) (packed_value value) code bytes
signed_word type word number code bytes kind is below packs =
    let again : cast_signed w64 (cast_unsigned w64 number) ≡ cast_signed w64 word = ap (cast_signed w64) (ap (cast_unsigned w64) is ∙ of_z-to_z w64 word below) in
    signed_value_packed type word code bytes kind (subst (λ (z : ℤ). Packed signed z code bytes) again packs)

pub unsigned_word : (type : ArgType) (word code : ℕ) (bytes : List ℕ) → kind_of type ≡ unsigned → Packed unsigned (pos word) code bytes
    → (value : Value) (more : List ℕ) → FitsType value type → words_of_argument value ≡ word ∷ more → Packed (kind_of type) (packed_value value) code bytes
unsigned_word argument_types.UInt word code bytes kind packed (values.Unsigned n) more fits is = let same : word ≡ n = cc in subst (λ (k : ℕ). Packed unsigned (pos k) code bytes) same packed
unsigned_word argument_types.ULong word code bytes kind packed (values.Unsigned n) more fits is = let same : word ≡ n = cc in subst (λ (k : ℕ). Packed unsigned (pos k) code bytes) same packed
unsigned_word argument_types.Text word code bytes kind packed (values.Text text) more fits is = let same : word ≡ length text = cc in subst (λ (k : ℕ). Packed unsigned (pos k) code bytes) same packed
unsigned_word argument_types.Int word code bytes kind packed _ more fits is = cc
unsigned_word argument_types.Long word code bytes kind packed _ more fits is = cc
unsigned_word argument_types.Width word code bytes kind packed _ more fits is = cc
unsigned_word argument_types.Precision word code bytes kind packed _ more fits is = cc
unsigned_word _ word code bytes kind packed _ more fits is = absurd fits

-- a packed number has its bytes
pub has_its_bytes : (kind : Kind) (z : ℤ) (packed : PackedBytes) → Packed kind z packed.code (take packed.len packed.bytes) → packed.len ≡ byte_count kind packed.code → packed.len ≤ 8 → drop packed.len packed.bytes ≡ replicate (8 - packed.len) 0
    → HasItsBytes packed
has_its_bytes kind z packed packs len few others =
    let bytes : List ℕ = packed.bytes in
    let front : List ℕ = take packed.len bytes in
    let zeros : List ℕ = replicate (8 - packed.len) 0 in
    let whole : bytes ≡ front ++ zeros = sym (take-append-drop packed.len bytes) ∙ ap (λ (b : List ℕ). front ++ b) others in
    let long : length bytes ≡ 8 = ap length whole ∙ omega (arith, length-append front zeros, Packed-length kind z packed.code front packs, length-replicate {A = ℕ} (8 - packed.len) 0) in
    let are : AreBytes bytes = subst AreBytes (sym whole) (All-append (λ (b : ℕ). b < 256) front zeros (Packed-bytes kind z packed.code front packs) (All-replicate (λ (b : ℕ). b < 256) (8 - packed.len) 0 (omega arith))) in
    record { few = few; eight = ap (to_le_bytes w64) (from_le_bytes-number bytes long) ∙ ap (λ (n : ℕ). bytes_low_first 0 n (number_of_bytes bytes)) (sym long) ∙ low_first-number_of_bytes bytes are }

-- as many as it says
pub length-its_bytes : (packed : PackedBytes) → HasItsBytes packed → length (take packed.len packed.bytes) ≡ packed.len
length-its_bytes packed has =
    let few = has.few in
    length-take-le packed.len packed.bytes (omega (arith, ap length has.eight, length-bytes_low_first 0 8 (from_le_bytes w64 packed.bytes)))

-- ---- the argument at a place

-- any argument, where there is none at a place
abbrev pub no_value : Value
no_value = values.Unsigned 0

pub value_at : (types : List ArgType) (args : List Value) (place : ℕ) → Fits args types → place < length types → FitsType (get_or args place no_value) (get_or types place argument_types.Int)
value_at [] args place fits within = absurd (omega arith)
value_at (type ∷ types) (arg ∷ args) zero fits within = fits.0
value_at (type ∷ types) (arg ∷ args) (suc place) fits within = value_at types args place fits.1 (omega arith)
value_at (type ∷ types) [] place fits within = absurd fits

-- the words of the arguments from a place on begin with those of the first of them
pub words_begin : (types : List ArgType) (args : List Value) (place : ℕ) (rest : List ℕ) → Fits args types → place < length types → rest ≡ flat_map words_of_argument (drop place args)
    → BeginsWithWords (get_or types place argument_types.Int) rest (get_or args place no_value) (flat_map words_of_argument (drop (place + 1) args))
words_begin types args place rest fits within is = record {
  fits = value_at types args place fits within;
  is = is ∙ ap (flat_map words_of_argument) (drop_more args place no_value (omega (arith, Fits-length args types fits)));
}

pub first_of_words : (value : Value) → words_of_argument value ≡ get_or (words_of_argument value) 0 0 ∷ drop 1 (words_of_argument value)
first_of_words (values.Signed z) = refl
first_of_words (values.Unsigned n) = refl
first_of_words (values.Text bytes) = refl

-- ---- how many

pub id_short : (id code : ℕ) (bytes : List ℕ) → Packed unsigned (pos id) code bytes → id < 65536 → code ≤ 2
id_short id code bytes (n, is, packs) below = let same : id ≡ n = cc in packs.count.least 2 (omega arith)

-- two codes to a byte
pub codes_room : (types : List ArgType) (args : List Value) (numbers : List PackedNumber) → PacksArguments types args numbers → length (code_bytes (codes_of numbers)) ≡ (length types + 1) / 2
codes_room types args numbers packs = omega (arith, length-code_bytes (codes_of numbers), numbers_are_as_many types args numbers packs)

-- a text at a place is bytes
pub bytes_at : (args : List Value) (place : ℕ) → All HoldsBytes args → HoldsBytes (get_or args place no_value)
bytes_at [] place are = tt
bytes_at (arg ∷ args) zero are = All-head HoldsBytes arg args are
bytes_at (arg ∷ args) (suc place) are = bytes_at args place (All-tail HoldsBytes arg args are)
