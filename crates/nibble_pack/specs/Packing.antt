-- Packed numbers: a code of four bits, and bytes.
use Rattle.std.specs.Prelude.{◌≡◌, ℕ, ◌+◌, ◌-◌, ◌^◌, ◌<◌, ◌≤◌, if◌then◌else◌, nat_le, List, length, take, ℤ, pos, negsuc}
use Rattle.std.specs.Int.{w64, cast_unsigned, bytes_low_first}

pub data Kind : Type 0 where
  unsigned : Kind
  signed : Kind

-- the kind has this code
abbrev pub IsCode : Kind → ℕ → Type 0
IsCode unsigned code = code ≤ 8
IsCode signed code = code ≤ 15

-- how many bytes a code of the kind takes
abbrev pub byte_count : Kind → ℕ → ℕ
byte_count unsigned code = code
byte_count signed code = if nat_le code 8 then code else code - 9

-- the least count of bytes that hold the number
pub record IsLeastCount (count n : ℕ) : Type 0 where
  pub holds : n < 256 ^ count
  pub least : (fewer : ℕ) → n < 256 ^ fewer → count ≤ fewer

-- An unsigned number below 2^64: the code is its least count, and the bytes are as many, the lowest first.
pub record PacksUnsigned (n code : ℕ) (bytes : List ℕ) : Type 0 where
  pub fits : n < 2 ^ 64
  pub count : IsLeastCount code n
  pub spelled : bytes ≡ bytes_low_first 0 code n

-- a signed 64-bit number that is below -2^48 or at least 2^56; negsuc n is -n - 1
abbrev pub IsWide : ℤ → Type 0
IsWide (pos n) = (2 ^ 56 ≤ n) × (n < 2 ^ 63)
IsWide (negsuc n) = (2 ^ 48 ≤ n) × (n < 2 ^ 63)

-- A signed number from -2^63 to 2^63 - 1. One that is not wide is spelled by its least count, a negative one as -z - 1.
pub data PacksSigned (z : ℤ) (code : ℕ) (bytes : List ℕ) : Type 0 where
  small : (n : ℕ) → z ≡ pos n → n < 2 ^ 56 → IsLeastCount code n → bytes ≡ bytes_low_first 0 code n
      → PacksSigned z code bytes
  negative : (n count : ℕ) → z ≡ negsuc n → n < 2 ^ 48 → IsLeastCount count n → code ≡ 9 + count
      → bytes ≡ bytes_low_first 0 count n
      → PacksSigned z code bytes
  wide : IsWide z → code ≡ 8 → bytes ≡ bytes_low_first 0 8 (cast_unsigned w64 z) → PacksSigned z code bytes

-- the kind, the value, the code and the bytes
abbrev pub Packed : Kind → ℤ → ℕ → List ℕ → Type 0
Packed unsigned z code bytes = (n : ℕ) × (z ≡ pos n) × PacksUnsigned n code bytes
Packed signed z code bytes = PacksSigned z code bytes

-- the kind has this code, and there are fewer bytes than it takes
abbrev pub IsCut : Kind → ℕ → List ℕ → Type 0
IsCut kind code bytes = IsCode kind code × (length bytes < byte_count kind code)

-- the kind has this code, and the bytes that it takes are there, but no value has this code with these bytes
abbrev pub IsNotShortest : Kind → ℕ → List ℕ → Type 0
IsNotShortest kind code bytes =
    IsCode kind code × (byte_count kind code ≤ length bytes)
    × ((z : ℤ) → ¬ Packed kind z code (take (byte_count kind code) bytes))
