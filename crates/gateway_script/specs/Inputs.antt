-- What is taken from a reader.
use Rattle.std.specs.Prelude.{◌≤◌, ℕ, List, length, Option}
use Rattle.std.specs.Io.KnownBytes.{Consumes}

-- at most so many bytes of what it had left, where that is known
abbrev pub TakesMost : ℕ → Option (List ℕ) → Option (List ℕ) → Type 0
TakesMost n old new = (taken : List ℕ) × (length taken ≤ n) × Consumes old new taken
