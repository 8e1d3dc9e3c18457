-- Codes in bytes, two to a byte.
use Rattle.std.proofs.Common.{◌≡◌, ℕ, zero, suc, ◌+◌, ◌*◌, ◌/◌, ◌%◌, ◌<◌, true, List, [], ◌∷◌, ◌++◌, length, get_or, take, refl, arith}
use Rattle.std.specs.List.{AllByRecursion}
use Rattle.std.proofs.lemmas.Bool.{and_parts, eqb-true}
use Rattle.std.proofs.lemmas.List.Elements.{All-tail}
use Rattle.printf_grammar.specs.declared.arg_type.ArgType.{ArgType}
use Rattle.nibble_pack.specs.Bytes.{AreBytes}
use Rattle.buffer_extent.specs.Records.{kind_of, code_bytes}
use Rattle.buffer_extent.specs.Reading.{codes_in, is_code, are_codes}

pub codes_in-low : (bytes : List ℕ) (half place : ℕ) → place ≡ half + half → get_or (codes_in bytes) place 0 ≡ get_or bytes half 0 % 16
codes_in-low [] half place is = refl
codes_in-low (b ∷ bytes) zero zero is = refl
codes_in-low (b ∷ bytes) (suc half) (suc (suc place)) is = codes_in-low bytes half place (omega arith)
codes_in-low _ _ _ is = absurd (omega arith)

pub codes_in-high : (bytes : List ℕ) (half place : ℕ) → place ≡ half + half + 1 → get_or (codes_in bytes) place 0 ≡ get_or bytes half 0 / 16
codes_in-high [] half place is = refl
codes_in-high (b ∷ bytes) zero (suc zero) is = refl
codes_in-high (b ∷ bytes) (suc half) (suc (suc place)) is = codes_in-high bytes half place (omega arith)
codes_in-high _ _ _ is = absurd (omega arith)

pub length-codes_in : (bytes : List ℕ) → length (codes_in bytes) ≡ 2 * length bytes
length-codes_in [] = refl
length-codes_in (b ∷ bytes) = omega (arith, length-codes_in bytes)

pub length-code_bytes : (codes : List ℕ) → length (code_bytes codes) ≡ length codes / 2 + length codes % 2
length-code_bytes [] = refl
length-code_bytes (a ∷ []) = refl
length-code_bytes (a ∷ b ∷ codes) = omega (arith, length-code_bytes codes)

abbrev pub AreCodes : List ℕ → Type 0
AreCodes codes = AllByRecursion (λ code. code < 16) codes

-- what stands behind codes in the last of their bytes
abbrev pub padding : List ℕ → List ℕ
padding [] = []
padding (code ∷ []) = 0 ∷ []
padding (low ∷ high ∷ codes) = padding codes

-- codes are read off their bytes
pub codes_again : (codes : List ℕ) → AreCodes codes → codes_in (code_bytes codes) ≡ codes ++ padding codes
codes_again [] small = refl
codes_again (code ∷ []) small = let low : code % 16 ≡ code = omega arith in let high : code / 16 ≡ 0 = omega arith in λ t. low t ∷ high t ∷ []
codes_again (low ∷ high ∷ codes) small =
    let first : (low + 16 * high) % 16 ≡ low = omega arith in
    let second : (low + 16 * high) / 16 ≡ high = omega arith in
    let more = codes_again codes small.1.1 in
    λ t. first t ∷ second t ∷ more t

-- bytes are those of the codes that they hold for the types
pub bytes_again : (types : List ArgType) (bytes : List ℕ) → AreBytes bytes → length bytes ≡ (length types + 1) / 2 → are_codes types (codes_in bytes) ≡ true → code_bytes (take (length types) (codes_in bytes)) ≡ bytes
bytes_again [] [] small len codes = refl
bytes_again [] (byte ∷ bytes) small len codes = absurd (omega arith)
bytes_again (type ∷ types) [] small len codes = absurd (omega arith)
bytes_again (type ∷ []) (byte ∷ []) small len codes =
    let unused = (and_parts (is_code (kind_of type) (byte % 16)) _ codes).1 in
    let high : byte / 16 ≡ 0 = eqb-true (byte / 16) 0 ((and_parts _ true unused).0) in
    let low : byte % 16 ≡ byte = omega arith in
    λ t. low t ∷ []
bytes_again (type ∷ []) (byte ∷ other ∷ bytes) small len codes = absurd (omega arith)
bytes_again (type ∷ next ∷ types) (byte ∷ bytes) small len codes =
    let first = and_parts (is_code (kind_of type) (byte % 16)) _ codes in
    let second = and_parts (is_code (kind_of next) (byte / 16)) _ first.1 in
    let whole : byte % 16 + 16 * (byte / 16) ≡ byte = omega arith in
    let more = bytes_again types bytes (All-tail (λ b. b < 256) byte bytes small) (omega arith) second.1 in
    λ t. whole t ∷ more t

pub take_fits : (n : ℕ) (bytes : List ℕ) (i : ℕ) → ((k : ℕ) → get_or bytes k 0 < 256) → get_or (take n bytes) i 0 < 256
take_fits zero bytes i fits = omega arith
take_fits (suc n) [] i fits = omega arith
take_fits (suc n) (b ∷ bytes) zero fits = fits 0
take_fits (suc n) (b ∷ bytes) (suc i) fits = take_fits n bytes i (λ k. fits (suc k))
