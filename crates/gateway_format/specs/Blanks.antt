-- A disk with nothing but zeros.
use Rattle.std.specs.Prelude.{◌≡◌, ◌<◌, ◌+◌, ◌==◌, ℕ, Bool}

abbrev pub is_zero : ℕ → Bool
is_zero byte = byte == 0

abbrev pub IsBlankFrom : ℕ → ℕ → (ℕ → ℕ) → Type 0
IsBlankFrom at count bytes = (p : ℕ) → p < count → bytes (at + p) ≡ 0

-- all of so many bytes are zeros
abbrev pub IsBlank : ℕ → (ℕ → ℕ) → Type 0
IsBlank size bytes = (p : ℕ) → p < size → bytes p ≡ 0
