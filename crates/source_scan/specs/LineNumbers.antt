-- Numbers of lines.
use Rattle.std.specs.Prelude.{ℕ, Bool, ◌&&◌, nat_le, if◌then◌else◌, List, Option, Some, None}
use Rattle.std.specs.List.{list_all}
use Rattle.std.specs.Char.{is_digit}
use Rattle.std.specs.Str.Parse.{digits_value}
use Rattle.source_scan.specs.declared.line_change.TheConstants.{MAX_LINE}

abbrev pub is_decimal : ℕ → Bool
is_decimal byte = is_digit byte 10

-- the number that a text spells: decimal digits, up to the limit
abbrev pub spelled_number : List ℕ → Option ℕ
spelled_number text =
    if list_all is_decimal text && nat_le (digits_value 10 text) MAX_LINE then Some (digits_value 10 text) else None
