-- Bytes that decode to themselves.
use Rattle.std.specs.Prelude.{ℕ, ◌<◌, ◌≤◌, ◌≡◌, false, List, All, length, take}
use Rattle.enc_model.specs.Stream.{Handler, steps}

-- The first n bytes are ASCII and decode to themselves.
pub record IsAsciiPrefix {S : Type 0} (h : Handler S) (s : S) (bytes : List ℕ) (n : ℕ) : Type 0 where
  pub within : n ≤ length bytes
  pub ascii : All (λ b. b < 128) (take n bytes)
  pub own : steps h false s (take n bytes) ≡ record { text = take n bytes; state = s }
