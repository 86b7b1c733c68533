-- Lengths of uploads, which may be unknown.
use Rattle.std.specs.Prelude.{ℕ, Bool, true, false, nat_lt, ◌==◌, if◌then◌else◌, Option, Some, None}
use Rattle.common.specs.declared.limits.TheConstants.{MOST_LENGTH}

-- The length is known and equals the count.
abbrev pub is_length : Option ℕ → ℕ → Bool
is_length None count = false
is_length (Some length) count = count == length

-- The known length, or else the declared one.
abbrev pub known_or : Option ℕ → Option ℕ → Option ℕ
known_or None declare = declare
known_or (Some length) declare = Some length

-- A length is declared, and none was known.
abbrev pub is_new : Option ℕ → Option ℕ → Bool
is_new None (Some length) = true
is_new _ _ = false

-- Both lengths are known, and they differ.
abbrev pub differ : Option ℕ → Option ℕ → Bool
differ (Some length) (Some other) = if length == other then false else true
differ _ _ = false

-- The length is known and above the limit.
abbrev pub is_too_large : Option ℕ → Bool
is_too_large None = false
is_too_large (Some length) = nat_lt MOST_LENGTH length

-- How many bytes there may be: the length if it is known, else the limit.
abbrev pub longest : Option ℕ → ℕ
longest None = MOST_LENGTH
longest (Some length) = length
