-- The crash images of a spool, now and since some moment.
use Rattle.std.specs.Prelude.{◌≡◌, ◌⊎◌, ◌≤◌, ◌*◌, ℕ, List, Option, Some}
use Rattle.spool_journal.specs.declared.TheConstants.{PAGE}
use Rattle.spool_disk.specs.Disk.{IsImage}
use Rattle.spool_disk.specs.declared.disk.Disk.{Ghosts}
use Rattle.spool_journal.specs.Image.{all_pages}
use Rattle.upload_rules.specs.Answers.{Among}
use Rattle.upload_rules.specs.Store.{Store}
use Rattle.spool_catalog.specs.Shows.{ImageShows}

-- Now.

-- The disk is honest and has room for n text blocks, and a read of it shows these uploads: what an opening requires.
pub record IsSpool {D : Type 0} (disk : Ghosts D) (d : D) (n : ℕ) (m : Store) : Type 0 where
  pub honest : disk.honest d
  pub room : PAGE * all_pages n ≤ disk.size d
  pub shows : ImageShows n (disk.current d) m

-- The same of every crash image.
pub record AllShow {D : Type 0} (disk : Ghosts D) (d : D) (n : ℕ) (m : Store) : Type 0 where
  pub honest : disk.honest d
  pub room : PAGE * all_pages n ≤ disk.size d
  pub each : (image : ℕ → ℕ) → IsImage (disk.current d) (disk.unsynced d) image → ImageShows n image m

-- A crash image during an opening: one of before, or one that shows the same.
abbrev pub LeftOrShows : {D : Type 0} → Ghosts D → D → ℕ → Store → (ℕ → ℕ) → Type 0
LeftOrShows disk before n m image = IsImage (disk.current before) (disk.unsynced before) image ⊎ ImageShows n image m

-- Since some moment.

-- The image shows one of these stores, and n blocks.
pub record ShowsOne (n : ℕ) (ms : List Store) (image : ℕ → ℕ) : Type 0 where
  pub store : Store
  pub among : Among store ms
  pub shows : ImageShows n image store

-- A read of the disk shows one of these stores, and n blocks.
pub record OpensOne {D : Type 0} (disk : Ghosts D) (d : D) (n : ℕ) (ms : List Store) : Type 0 where
  pub store : Store
  pub among : Among store ms
  pub opens : IsSpool disk d n store

-- The disk is honest and has room for n text blocks, and every crash image since moment t shows one of these stores and
-- n blocks.
pub record LeftOnly {D : Type 0} (disk : Ghosts D) (d : D) (n t : ℕ) (ms : List Store) : Type 0 where
  pub honest : disk.honest d
  pub room : PAGE * all_pages n ≤ disk.size d
  pub each : (image : ℕ → ℕ) → disk.left_since d t image → ShowsOne n ms image

-- The same for a block count that may be unlimited.
abbrev pub SpoolLeft : {D : Type 0} → Ghosts D → D → ℕ → Option ℕ → ℕ → List Store → Type 0
SpoolLeft disk d n blocks t ms = (blocks ≡ Some n) × LeftOnly disk d n t ms
