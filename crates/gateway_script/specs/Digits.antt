-- The values of hex digits in a table.
use Rattle.std.specs.Prelude.{◌≡◌, ℕ, ◌<◌, List, Option, None, slice_index_or}
use Rattle.hex.specs.Hex.{hex_digit_value}

-- The first so many bytes have their values as digits.
abbrev pub HaveValues : List (Option ℕ) → ℕ → Type 0
HaveValues values count = (byte : ℕ) → byte < count → slice_index_or values byte None ≡ hex_digit_value byte
