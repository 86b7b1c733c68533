-- The state of the ISO-2022-JP decoder, and the pairs that it reads at once.
use Rattle.std.specs.Prelude.{ℕ, ◌+◌, ◌-◌, ◌*◌, ◌≤◌, ◌≡◌, Bool, false, List, Option, Some, None, length}
use Rattle.std.specs.Prelude.{slice_index_or}
use Rattle.enc_model.specs.declared.Charset.{Charset}
use Rattle.enc_model.specs.declared.Charset.TheVariants.{Lead}
use Rattle.enc_model.specs.declared.Place.{Place}
use Rattle.enc_model.specs.declared.Place.TheVariants.{In, Trail}
use Rattle.enc_legacy.specs.declared.pairs.TheConstants.{NO_PAIR}

-- In a character set the output state is that set. A lead byte is one of jis0208.
abbrev pub IsIso2022State : Place → Charset → Bool → Type 0
IsIso2022State (In set) output flag = output ≡ set
IsIso2022State (Trail lead) output flag = (0x21 ≤ lead) × (lead ≤ 0x7E) × (output ≡ Lead) × (flag ≡ false)
IsIso2022State _ output flag = Unit {0}

-- A byte of jis0208.
abbrev pub IsIso2022Row : ℕ → Type 0
IsIso2022Row b = (0x21 ≤ b) × (b ≤ 0x7E)

-- Two bytes of jis0208 represent this character, by the code points at their pointers, if these are few.
abbrev pub IsIso2022Pair : List (Option ℕ) → ℕ → ℕ → ℕ → Type 0
IsIso2022Pair codes lead b c =
    length codes ≤ NO_PAIR → IsIso2022Row lead × IsIso2022Row b
    × (slice_index_or codes ((lead - 0x21) * 94 + (b - 0x21)) None ≡ Some c)
