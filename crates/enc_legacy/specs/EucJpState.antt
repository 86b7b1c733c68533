-- The state of the EUC-JP decoder, and the pairs that it reads at once.
use Rattle.std.specs.Prelude.{ℕ, ◌+◌, ◌-◌, ◌*◌, ◌≤◌, ◌≡◌, ◌⊎◌, Bool, false, List, Option, Some, None, length}
use Rattle.std.specs.Prelude.{slice_index_or}
use Rattle.enc_model.specs.Japanese.{EucJp, euc_jp_start}
use Rattle.enc_legacy.specs.declared.euc_jp.Begun.{Begun}
use Rattle.enc_legacy.specs.declared.euc_jp.Begun.TheVariants.{Nothing, HalfWidth, Jis0212, Row}
use Rattle.enc_legacy.specs.declared.pairs.TheConstants.{NO_PAIR}

-- A byte of a row.
abbrev pub IsRow : ℕ → Type 0
IsRow lead = (0xA1 ≤ lead) × (lead ≤ 0xFE)

-- No lead byte; the lead of half-width katakana or of jis0212; or that of a row, which is one of jis0212 if the flag is
-- set.
abbrev pub IsEucJpState : ℕ → Bool → Type 0
IsEucJpState lead flag = (((lead ≡ 0) ⊎ ((lead ≡ 0x8E) ⊎ (lead ≡ 0x8F))) × (flag ≡ false)) ⊎ IsRow lead

-- The lead byte and the flag of what has begun.
abbrev pub begun_state : Begun → EucJp
begun_state Nothing = euc_jp_start
begun_state HalfWidth = record { lead = 0x8E; flag = false }
begun_state Jis0212 = record { lead = 0x8F; flag = false }
begun_state (Row lead flag) = record { lead = lead; flag = flag }

-- A pair has begun by a byte of a row.
abbrev pub IsBegun : Begun → Type 0
IsBegun (Row lead flag) = IsRow lead
IsBegun _ = Unit {0}

-- Two bytes of rows represent this character, by the code points at their pointers, if these are few.
abbrev pub IsEucJpPair : List (Option ℕ) → ℕ → ℕ → ℕ → Type 0
IsEucJpPair codes lead b c =
    length codes ≤ NO_PAIR → IsRow lead × IsRow b
    × (slice_index_or codes ((lead - 0xA1) * 94 + (b - 0xA1)) None ≡ Some c)
