-- Characters in UTF-8.
use Rattle.std.specs.Prelude.{ℕ, List, ◌≡◌, ◌≤◌, take, get_or, encode_utf8}
use Rattle.std.specs.Str.{chars}
use Rattle.std.specs.Char.{IsScalar}

-- The character of the first bytes.
abbrev pub char_in : List ℕ → ℕ → ℕ
char_in bytes len = get_or (chars (take len bytes)) 0 0

-- The first `len` bytes are the character's.
pub record IsUtf8Char (bytes : List ℕ) (len : ℕ) : Type 0 where
  pub scalar : IsScalar (char_in bytes len)
  pub code : take len bytes ≡ encode_utf8 (char_in bytes len)
  pub few : len ≤ 4
