-- Numbers as fields spell them.
use Rattle.std.specs.Prelude.{ℕ, zero, suc, ◌+◌, ◌-◌, ◌*◌, ◌^◌, Bool, List, [], ◌∷◌, length, Option, Some, None, ◌==◌, nat_le, nat_lt}
use Rattle.std.specs.Prelude.{◌&&◌, not, if◌then◌else◌, ℤ, pos, negsuc}
use Rattle.std.specs.Option.{option_map}
use Rattle.log_dictionary.specs.declared.numbers.Natural.{Natural}
use Rattle.log_dictionary.specs.declared.numbers.Natural.TheVariants.{Small, Large}
use Rattle.log_dictionary.specs.declared.numbers.Integer.{Integer}
use Rattle.log_dictionary.specs.declared.numbers.Integer.TheVariants.{Signed, Unsigned, Beyond}

-- a byte is a decimal digit
abbrev pub is_digit : ℕ → Bool
is_digit b = nat_le 48 b && nat_le b 57

-- the number that these digits spell behind the digits of n, if they are digits
unfoldable pub number_from : ℕ → List ℕ → Option ℕ
number_from n [] = Some n
number_from n (d ∷ digits) = if is_digit d then number_from (n * 10 + (d - 48)) digits else None

-- the number that the digits which stand first spell behind the digits of n, and the bytes behind them
unfoldable pub digits_from : ℕ → List ℕ → ℕ × List ℕ
digits_from n [] = (n, [])
digits_from n (d ∷ digits) = if is_digit d then digits_from (n * 10 + (d - 48)) digits else (n, d ∷ digits)

-- the number of any size that decimal digits without a zero in front spell; 0 is `0`
abbrev pub natural_of : List ℕ → Option ℕ
natural_of [] = None
natural_of (d ∷ digits) = if d == 48 && not (length digits == 0) then None else number_from 0 (d ∷ digits)

-- the number that follows a `-`, which isn't 0, below 0
abbrev pub negated : Option ℕ → Option ℤ
negated None = None
negated (Some zero) = None
negated (Some (suc n)) = Some (negsuc n)

-- the number of any size that a field spells: its digits, with one `-` in front of a number below 0
abbrev pub integer_of : List ℕ → Option ℤ
integer_of [] = None
integer_of (b ∷ field) = if b == 45 then negated (natural_of field) else option_map pos (natural_of (b ∷ field))

-- a number below 2^64, or only that it isn't
abbrev pub natural_read : ℕ → Natural
natural_read n = if nat_lt n (2 ^ 64) then Small n else Large

-- a number from -2^63 to 2^64-1, or only that it isn't
abbrev pub integer_read : ℤ → Integer
integer_read (pos n) = if nat_lt n (2 ^ 64) then Unsigned n else Beyond
integer_read (negsuc n) = if nat_lt n (2 ^ 63) then Signed (negsuc n) else Beyond

-- the number, if it is from -2^63 to 2^63-1
abbrev pub if_signed : Option ℤ → Option ℤ
if_signed None = None
if_signed (Some (pos n)) = if nat_lt n (2 ^ 63) then Some (pos n) else None
if_signed (Some (negsuc n)) = if nat_lt n (2 ^ 63) then Some (negsuc n) else None

-- the number, if it is below 2^64
abbrev pub if_small : Option ℕ → Option ℕ
if_small None = None
if_small (Some n) = if nat_lt n (2 ^ 64) then Some n else None
