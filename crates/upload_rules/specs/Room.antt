-- Room: how many blocks a patch needs, and how many the others leave free.
use Rattle.std.specs.Prelude.{ℕ, ◌+◌, ◌-◌, ◌/◌, Bool, false, ◌||◌, List, [], ◌∷◌, length, nat_lt, ◌==◌, if◌then◌else◌}
use Rattle.std.specs.Prelude.{Option, Some, None}
use Rattle.enc_model.specs.Encode.{Coded}
use Rattle.enc_model.specs.Indexes.{IndexSet}
use Rattle.upload_rules.specs.Store.{Upload, text_of}
use Rattle.upload_rules.specs.World.{Patch, World, is_there, patch_text}

-- The number of blocks of n bytes.
abbrev pub blocks_of : ℕ → ℕ
blocks_of n = (n + 4095) / 4096

-- The number of blocks of all texts.
abbrev pub used : IndexSet → List (ℕ × Upload) → ℕ
used x [] = 0
used x (entry ∷ entries) = blocks_of (length (text_of x entry.1)) + used x entries

-- The blocks that x more bytes need after a text of t bytes. A last block that isn't full is replaced, so it counts
-- again.
abbrev pub need_of : ℕ → ℕ → ℕ
need_of t x = if x == 0 then 0 else blocks_of (t + x) - t / 4096

-- The blocks that the text with the body needs, or none if a character is unmappable.
abbrev pub text_need : ℕ → Coded → ℕ
text_need t coded = if is_there coded.fault then 0 else need_of t (length coded.bytes - t)

-- The blocks that the patch wants, even if it is short of room.
unfoldable pub wants : IndexSet → Patch → Bool → ℕ
wants x p done = text_need (length (text_of x p.began)) (patch_text x p done)

-- The blocks that the patch needs: none once it is short of room.
abbrev pub need : IndexSet → Patch → Bool → ℕ
need x p done = if p.short then 0 else wants x p done

-- The needs of all patches but one.
abbrev pub needs_but : ℕ → IndexSet → List (ℕ × Patch) → ℕ
needs_but d x [] = 0
needs_but d x (entry ∷ entries) = (if entry.0 == d then 0 else need x entry.1 false) + needs_but d x entries

-- The need exceeds what the other texts and patches leave free.
abbrev pub exceeds : Option ℕ → ℕ → ℕ → Bool
exceeds None taken wanted = false
exceeds (Some n) taken wanted = nat_lt n (taken + wanted)

-- The patch is short of room: it was before, or its need exceeds what the others leave free.
unfoldable pub is_short : World → ℕ → Patch → Bool → Bool
is_short w d p done =
    p.short || exceeds w.blocks (used w.store.indexes w.store.uploads + needs_but d w.store.indexes w.patches)
    (wants w.store.indexes p done)
