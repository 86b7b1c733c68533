-- Characters that a single-byte encoding has, by a table of the pointers of those outside ASCII.
use Rattle.std.specs.Prelude.{ℕ, List, [], ◌∷◌, ◌≡◌, ◌<◌, ◌≤◌, ◌+◌, ◌⊎◌, Some, IfSome}
use Rattle.enc_index.specs.Entries.{found_pointer}
use Rattle.enc_model.specs.Encode.{Encoder, Shift}
use Rattle.enc_encode.specs.Runs.{Stays}

-- the pointers of a single-byte encoding
abbrev pub FewPointers : List ℕ → Type 0
FewPointers at = (c : ℕ) → IfSome (found_pointer at c) (λ p. p < 128)

-- the byte of a character: ASCII is its own byte, and others have a pointer
abbrev pub IsSingleByte : List ℕ → ℕ → List ℕ → Type 0
IsSingleByte at c bytes = ((c < 0x80) × (bytes ≡ c ∷ []))
    ⊎ ((0x80 ≤ c) × (p : ℕ) × (found_pointer at c ≡ Some p) × (bytes ≡ (p + 0x80) ∷ []))

-- an encoder gives these bytes
abbrev pub AreSingles : Encoder → List ℕ → Type 0
AreSingles f at = (s : Shift) (c : ℕ) (bytes : List ℕ) → IsSingleByte at c bytes → Stays f s c bytes
