-- A line of a script.
use Rattle.std.specs.Prelude.{◌≡◌, ℕ, suc, ◌<◌, ◌==◌, false, List, length, slice_index}

-- Only the last byte of a line may be an LF.
abbrev pub IsLine : List ℕ → Type 0
IsLine line = (k : ℕ) → suc k < length line → (slice_index line k == 10) ≡ false
