-- The effect of a call on one draft on the blocks and the disk.
use Rattle.std.specs.Prelude.{◌≡◌, ◌⊎◌, ◌<◌, ℕ, List, [], length, get_or}
use Rattle.spool_blocks.specs.Blocks.{Held, IsFree}
use Rattle.spool_disk.specs.Disk.{IsImage}
use Rattle.spool_disk.specs.Views.{Lasts}
use Rattle.spool_disk.specs.declared.disk.Disk.{Ghosts}
use Rattle.spool_journal.specs.Phases.{Idle}
use Rattle.spool_texts.specs.Drafts.{IsReserved, Takes, GivesBack}
use Rattle.spool_texts.specs.Written.{WritesIn, aside_blocks}
use Rattle.spool_journal.specs.Image.{area_end}

-- The block is listed.
pub record IsIn (list : List ℕ) (b : ℕ) : Type 0 where
  pub at : ℕ
  pub below : at < length list
  pub here : get_or list at 0 ≡ b

-- The draft reserved free blocks after its list. It has them all then, or it gave them all back.
pub record Regrasps (old new : Held) (list list' own : List ℕ) : Type 0 where
  pub held : Held
  pub takes : Takes old held list own
  pub reserved : IsReserved held own
  pub holds : ((held ≡ new) × (list' ≡ own)) ⊎ (GivesBack held new own × (list' ≡ []))

-- Only these blocks are written; apart from them, every crash image is one of before.
pub record OnlyWrites {D : Type 0} (disk : Ghosts D) (pages : ℕ) (own : List ℕ) (old new : D) : Type 0 where
  pub writes : WritesIn (area_end pages) own (disk.current old) (disk.current new) (disk.unsynced old)
      (disk.unsynced new)
  pub idle : Idle pages (disk.current old) (disk.unsynced old) → Idle pages (disk.current new) (disk.unsynced new)
  pub image : (image : ℕ → ℕ) → IsImage (disk.current new) (disk.unsynced new) image
      → IsImage (disk.current old) (disk.unsynced old) (aside_blocks (area_end pages) own (disk.current old) image)
  pub lasts : Lasts disk old new
      (λ image. IsImage (disk.current old) (disk.unsynced old) (aside_blocks (area_end pages) own
      (disk.current old) image))

-- The effect of a call on any disk: it writes only blocks of the draft, those of its list and free ones that it
-- reserved.
pub record Effect {D : Type 0} (disk : Ghosts D) (pages : ℕ) (list list' : List ℕ) (old new : D)
    (blocks blocks' : Held) : Type 0 where
  pub own : List ℕ
  pub grasp : Regrasps blocks blocks' list list' own
  pub writes : disk.honest old → OnlyWrites disk pages own old new

-- The draft needed this many blocks, no more were free, and it gave all back.
pub record RunsShort (old new : Held) (list : List ℕ) (wanted : ℕ) : Type 0 where
  pub held : Held
  pub own : List ℕ
  pub takes : Takes old held list own
  pub reserved : IsReserved held own
  pub full : (b : ℕ) → IsFree held b → ⊥
  pub scarce : length own < wanted
  pub gives : GivesBack held new own
