-- What finding, recovering and reading a spool leaves of a disk.
use Rattle.std.specs.Prelude.{◌⊎◌, ℕ, ◌*◌, ◌≤◌}
use Rattle.spool_journal.specs.declared.TheConstants.{PAGE}
use Rattle.spool_disk.specs.Disk.{IsImage, Preserves}
use Rattle.spool_disk.specs.Views.{Lasts}
use Rattle.spool_disk.specs.declared.disk.Disk.{Ghosts}
use Rattle.spool_journal.specs.Image.{all_pages, journal_pages, overlaid}
use Rattle.spool_journal.specs.Phases.{ReadsAs, Settled}
use Rattle.spool_catalog.specs.Shows.{IsValid}
use Rattle.spool_load.specs.Reads.{NeedsReplay}
use Rattle.spool_pages.specs.View.{View, IsViewOf}

-- This is so of the valid view that a read gives, if there is one and the disk has room for it.
abbrev pub OfView : ℕ → (ℕ → ℕ) → (View → Type 0) → Type 0
OfView size current So = (v : View) → IsValid v → IsViewOf current v → PAGE * all_pages v.blocks ≤ size → So v

-- All of a disk of n text blocks is synced then, and its gate is closed.
abbrev pub Recovered : {D : Type 0} → Ghosts D → ℕ → D → D → Type 0
Recovered disk n before after =
    Settled (journal_pages n) (overlaid (disk.current before)) (disk.current after) (disk.unsynced after)

-- A crash leaves an image of before, or one that reads the same.
abbrev pub LeavesRead : {D : Type 0} → Ghosts D → ℕ → D → D → Type 0
LeavesRead disk n before after = Lasts disk before after (λ image.
    IsImage (disk.current before) (disk.unsynced before) image
    ⊎ ReadsAs (journal_pages n) image (overlaid (disk.current before)))

-- The disk afterwards, if no journal has to be replayed. This is so of every disk that isn't a spool, and of a spool of
-- another version with a closed gate.

-- Every crash image is one of before.
abbrev pub Unwritten : {D : Type 0} → Ghosts D → D → D → Type 0
Unwritten disk before after = (NeedsReplay (disk.size before) (disk.current before) → ⊥)
    → Lasts disk before after (IsImage (disk.current before) (disk.unsynced before))

-- A read gives the same, unless there was a disk fault.
abbrev pub ReadsSame : {D : Type 0} → Ghosts D → D → D → Type 0 → Type 0
ReadsSame disk before after failed = (NeedsReplay (disk.size before) (disk.current before) → ⊥) → (failed → ⊥)
    → Preserves (disk.current before) (disk.current after) (disk.unsynced before) (disk.unsynced after)
