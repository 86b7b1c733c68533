-- Properties of a disk under crashes.
use Rattle.std.specs.Prelude.{◌⊎◌, ℕ, ◌≤◌, List}
use Rattle.spool_disk.specs.Disk.{Firm, Reads}
use Rattle.spool_disk.specs.declared.disk.Disk.{Ghosts}

-- A read gives these bytes from the place on, and so does every crash image.
abbrev pub Has : {D : Type 0} (disk : Ghosts D) → D → ℕ → List ℕ → Type 0
Has disk d at bytes = Firm (disk.current d) (disk.unsynced d) at bytes

-- Every crash image between old and new is one of before, or has P.
pub record Lasts {D : Type 0} (disk : Ghosts D) (old new : D) (P : (ℕ → ℕ) → Type 0) : Type 0 where
  pub later : disk.moment old ≤ disk.moment new
  pub nothing_else : (t : ℕ) (image : ℕ → ℕ) → t ≤ disk.moment old → disk.left_since new t image
      → disk.left_since old t image ⊎ P image

-- A read gives these bytes from the place on.
abbrev pub GivesBytes : {D : Type 0} (disk : Ghosts D) → D → ℕ → List ℕ → Type 0
GivesBytes disk d at bytes = Reads (disk.current d) at bytes
