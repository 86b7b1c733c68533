-- The characters of a single-byte encoding (Encoding Standard, 9.1).
use Rattle.std.specs.Prelude.{ℕ, ◌-◌, nat_lt, unwrap_or, if◌then◌else◌}
use Rattle.enc_model.specs.Index.{Index, code}

-- A byte below 80 represents itself, any other the code point at its pointer, or U+FFFD without one.
abbrev pub byte_char : Index → ℕ → ℕ
byte_char index b = if nat_lt b 0x80 then b else unwrap_or (code index (b - 0x80)) 0xFFFD
