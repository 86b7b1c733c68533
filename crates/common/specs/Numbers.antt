-- Numbers in texts.
use Rattle.std.specs.Prelude.{◌≡◌, ◌<◌, ◌^◌, ℕ, Bool, true, ◌&&◌, nat_le, List, length, if◌then◌else◌}
use Rattle.std.specs.Prelude.{Option, Some, None}
use Rattle.std.specs.List.{list_all}
use Rattle.std.specs.Char.{is_ascii_digit}
use Rattle.std.specs.Str.Parse.{digits_value}

-- 1 to 18 digits.
abbrev pub is_number : List ℕ → Bool
is_number text = nat_le 1 (length text) && nat_le (length text) 18 && list_all is_ascii_digit text

-- The number of the text, if it is one.
abbrev pub number_of : List ℕ → Option ℕ
number_of text = if is_number text then Some (digits_value 10 text) else None

-- The text consists of digits and is this number.
pub record AreDigits (text : List ℕ) (value : ℕ) : Type 0 where
  pub digits : list_all is_ascii_digit text ≡ true
  pub value_is : value ≡ digits_value 10 text
  pub bound : value < 10 ^ length text
