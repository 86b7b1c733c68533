-- Bytes in a page.
use Rattle.std.specs.Prelude.{◌≡◌, ℕ, List, get_or}

-- The page has these bytes, and zeros after them.
pub record IsPadded (page bytes : List ℕ) : Type 0 where
  pub each : (i : ℕ) → get_or page i 0 ≡ get_or bytes i 0
