-- The classes of bytes whose runs are found. std's prefix_len is the length of the longest prefix whose members all
-- pass a test.
use Rattle.std.specs.Prelude.{ℕ, Bool, ◌==◌, ◌&&◌, not, if◌then◌else◌}
use Rattle.std.specs.Char.{is_ascii}
use Rattle.std.specs.Int.{w64, trailing_zeros}

-- ASCII that doesn't change the state of ISO-2022-JP.
abbrev pub is_plain_2022 : ℕ → Bool
is_plain_2022 b = is_ascii b && not (b == 0x0E) && not (b == 0x0F) && not (b == 0x1B)

-- The index of the lowest set bit, or n.
abbrev pub first_set : ℕ → ℕ → ℕ
first_set mask n = if mask == 0 then n else trailing_zeros w64 mask
