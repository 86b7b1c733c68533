-- The state of the Shift_JIS decoder, and the pairs that it reads at once.
use Rattle.std.specs.Prelude.{ℕ, ◌≤◌, ◌≡◌, ◌⊎◌, List, Option, Some, None, length, slice_index_or}
use Rattle.enc_model.specs.Index.{Index, code}
use Rattle.enc_model.specs.Japanese.{shift_jis_pair}
use Rattle.enc_legacy.specs.declared.pairs.TheConstants.{NO_PAIR}

-- A lead byte.
abbrev pub IsShiftJisLead : ℕ → Type 0
IsShiftJisLead lead = ((0x81 ≤ lead) × (lead ≤ 0x9F)) ⊎ ((0xE0 ≤ lead) × (lead ≤ 0xFC))

-- No lead byte, or one.
abbrev pub IsShiftJisState : ℕ → Type 0
IsShiftJisState lead = (lead ≡ 0) ⊎ IsShiftJisLead lead

-- The lead byte that was read, or 0.
abbrev pub lead_or_zero : Option ℕ → ℕ
lead_or_zero None = 0
lead_or_zero (Some lead) = lead

-- Two bytes represent this character in an index with these code points, if the pointers are few.
abbrev pub IsShiftJisPair : List (Option ℕ) → ℕ → ℕ → ℕ → Type 0
IsShiftJisPair codes lead b c =
    length codes ≤ NO_PAIR → IsShiftJisLead lead
    × ((i : Index) → ((p : ℕ) → slice_index_or codes p None ≡ code i p) → shift_jis_pair i lead b ≡ Some c)
