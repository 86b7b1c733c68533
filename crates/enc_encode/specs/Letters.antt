-- Letters that a single-byte encoding has one after another.
use Rattle.std.specs.Prelude.{ℕ, List, [], ◌∷◌, ◌≡◌, ◌<◌, ◌≤◌, ◌+◌, ◌*◌, ◌%◌, Some}
use Rattle.enc_index.specs.Entries.{found_pointer}

-- characters of two bytes, as 64 times the lead and the trail, which is 12416 more than the code point. From the lowest
-- one on so many have bytes one after another, and this is the first one's byte
pub record AreLetters (at : List ℕ) (low byte count : ℕ) : Type 0 where
  pub lowest : 12416 ≤ low
  pub highest : low + count ≤ 14464
  pub each : (c : ℕ) → low ≤ c + 12416 → c + 12416 < low + count
      → (p : ℕ) × (found_pointer at c ≡ Some p) × (p + 128 + low ≡ byte + (c + 12416))

-- what leads and trails count
abbrev pub pair_codes : List ℕ → List ℕ
pair_codes [] = []
pair_codes (a ∷ []) = []
pair_codes (a ∷ b ∷ bytes) = (a * 64 + b) ∷ pair_codes bytes

-- a lead and a trail that are a letter's, and its byte
pub record IsLetter (low byte count lead trail b : ℕ) : Type 0 where
  pub place : ℕ
  pub inside : place < count
  pub small : trail < 256
  pub code : lead * 64 + trail ≡ low + place
  pub own : b ≡ (byte + place) % 256
