-- The fields of the UTF-8 decoder.
use Rattle.std.specs.Prelude.{ℕ, ◌+◌, ◌-◌, ◌*◌, ◌<◌, ◌≤◌, ◌≡◌, ◌⊎◌, List, false}
use Rattle.enc_model.specs.Stream.{steps}
use Rattle.enc_model.specs.Utf8.{Utf8, utf8, utf8_start}

-- The state after these bytes.
abbrev pub utf8_after : List ℕ → Utf8
utf8_after bytes = (steps utf8 false utf8_start bytes).state

-- From `low` to `high` there is no surrogate and no number above the greatest. Surrogates are from `below` up to
-- `above`.
abbrev pub Avoids : ℕ → ℕ → ℕ → ℕ → ℕ → Type 0
Avoids below above greatest low high = ((high < below) ⊎ (above ≤ low)) × (high ≤ greatest)

-- The code points that the state may still lead to are scalars.
pub record IsUtf8State (needed lower upper point current : ℕ) : Type 0 where
  pub none : needed ≡ 0 → (lower ≡ 0x80) × (upper ≡ 0xBF) × (point ≡ 0) × (current ≡ 0)
  pub bounds : (0x80 ≤ lower) × (upper ≤ 0xBF) × (current + needed ≤ 4) × (needed ≤ 3)
  pub one : needed ≡ 1 → Avoids 0xD800 0xE000 0x10FFFF (point * 64 + (lower - 0x80)) (point * 64 + (upper - 0x80))
  pub two : needed ≡ 2 → Avoids 0x360 0x380 0x43FF (point * 64 + (lower - 0x80)) (point * 64 + (upper - 0x80))
  pub three : needed ≡ 3 → Avoids 0 0x10 0x10F (point * 64 + (lower - 0x80)) (point * 64 + (upper - 0x80))

-- The state is the one after the bytes of its unfinished character.
abbrev pub IsUnfinishedState : Utf8 → Type 0
IsUnfinishedState s = s ≡ utf8_after s.partial
