-- Values that fit their bytes.
use Rattle.std.specs.Prelude.{◌≡◌, ℕ, ◌+◌, ◌^◌, ◌<◌, ◌≤◌, Option, Some, None, All, length}
use Rattle.common.specs.declared.limits.TheConstants.{MOST_METADATA}
use Rattle.spool_pages.specs.View.{SlotRecord}

-- A known length is below 2^64 - 1, whose bytes encode an unknown one in version 1.
abbrev pub FitsLength : Option ℕ → Type 0
FitsLength None = Unit {0}
FitsLength (Some n) = n + 1 < 2 ^ 64

-- The numbers of a record fit, its state has 32 bytes, and its metadata has at most 1,536.
pub record FitsSlot (r : SlotRecord) : Type 0 where
  pub some : 1 ≤ r.number
  pub number : r.number < 2 ^ 64
  pub declared : FitsLength r.declared
  pub accepted : r.accepted < 2 ^ 64
  pub text_len : r.text_len < 2 ^ 64
  pub state : length r.state ≡ 32
  pub metadata : length r.metadata ≤ MOST_METADATA

-- The numbers of a row fit.
abbrev pub FitsRow : Option (ℕ × ℕ) → Type 0
FitsRow None = Unit {0}
FitsRow (Some o) = (o.0 + 1 < 2 ^ 32) × (o.1 < 2 ^ 32)

-- A free slot, or a record with metadata of printable ASCII.
abbrev pub FitsSlotOf : Option SlotRecord → Type 0
FitsSlotOf None = Unit {0}
FitsSlotOf (Some r) = FitsSlot r × All (λ b. (0x20 ≤ b) × (b ≤ 0x7E)) r.metadata
