-- A batch of decoded text.
use Rattle.std.specs.Prelude.{ℕ, List, [], ◌∷◌, ◌≡◌, ◌≤◌, ◌<◌, ◌+◌, ◌*◌, ◌++◌, length}
use Rattle.std.specs.Str.{chars}

-- The characters were appended, each with at most four bytes.
pub record BatchTook (old given new : List ℕ) : Type 0 where
  pub text : chars new ≡ chars old ++ given
  pub size : length new ≤ length old + 4 * length given

-- There may have been no room.
abbrev pub BatchRefused : {E : Type 0} → List ℕ → List ℕ → E → List ℕ → Type 0
BatchRefused old given why new = 3072 < length old + 4 * length given

-- Two by two, the bytes represent the characters.
abbrev pub ArePairs : (ℕ → ℕ → ℕ → Type 0) → List ℕ → List ℕ → Type 0
ArePairs represent [] [] = Unit {0}
ArePairs represent (a ∷ b ∷ bytes) (c ∷ given) = represent a b c × ArePairs represent bytes given
ArePairs represent _ _ = ⊥
