-- Characters of UTF-8 that are cut.
use Rattle.std.specs.Prelude.{ℕ, ◌+◌, ◌<◌, ◌≡◌, List, false, take, drop}
use Rattle.enc_model.specs.Stream.{text_then, steps}
use Rattle.enc_model.specs.Utf8.{utf8, utf8_start, utf8_first, lead_step}

-- A character begins with this byte and needs n more, which may all be 80 to BF.
abbrev pub IsLead : ℕ → ℕ → Type 0
IsLead lead n = utf8_first lead ≡ lead_step lead n 0x80 0xBF (utf8_first lead).state.point

-- The first n bytes are cut characters with this text, and a byte after them is read as the first of a character.
abbrev pub AreCut : List ℕ → ℕ → List ℕ → Type 0
AreCut bytes n text =
    (k : ℕ) → 0 < k → steps utf8 false utf8_start (take (n + k) bytes)
    ≡ text_then text (steps utf8 false utf8_start (take k (drop n bytes)))
