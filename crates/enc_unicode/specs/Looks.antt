-- Searching for well-formed text.
use Rattle.std.specs.Prelude.{ℕ, ◌≤◌, Bool, ◌||◌}
use Rattle.enc_model.specs.Index.{within}
use Rattle.enc_unicode.specs.declared.well_formed.Look.{Look}
use Rattle.enc_unicode.specs.declared.well_formed.Look.TheVariants.{Within}

-- A window has at most 4,096 bytes.
abbrev pub IsNarrow : Look → Type 0
IsNarrow (Within reach) = reach ≤ 4096
IsNarrow look = Unit {0}

-- No character begins with this byte.
abbrev pub begins_none : ℕ → Bool
begins_none b = within 0x80 0xC1 b || within 0xF5 0xFF b
