-- Well-formed texts.
use Rattle.std.specs.Prelude.{ℕ, ◌<◌, ◌≡◌, true, List, All}
use Rattle.std.specs.List.{concat}
use Rattle.enc_index.specs.Scalars.{is_scalar}
use Rattle.enc_laws.specs.Subparts.{is_sequence}

-- All are bytes.
abbrev pub AreBytes : List ℕ → Type 0
AreBytes bytes = All (λ b. b < 0x100) bytes

-- All are scalar values.
abbrev pub AreScalars : List ℕ → Type 0
AreScalars scalars = All (λ c. is_scalar c ≡ true) scalars

-- Well-formed sequences, one after the other.
pub record IsWellFormed (bytes : List ℕ) : Type 0 where
  pub sequences : List (List ℕ)
  pub each : All (λ s. is_sequence s ≡ true) sequences
  pub parts : concat sequences ≡ bytes
