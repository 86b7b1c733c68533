-- Calls that only read, and what they read.
use Rattle.std.specs.Prelude.{◌≡◌, ℕ, ◌+◌, ◌*◌, ◌<◌, ◌≤◌, List, Option, None, length, get_or}
use Rattle.spool_journal.specs.declared.TheConstants.{PAGE}
use Rattle.common.specs.declared.limits.TheConstants.{LEAST_BLOCKS, MOST_BLOCKS}
use Rattle.spool_disk.specs.Given.{ReadsGave, MoreReads}
use Rattle.spool_disk.specs.Views.{Lasts}
use Rattle.spool_disk.specs.declared.disk.Disk.{Ghosts}
use Rattle.spool_journal.specs.Image.{all_pages}
use Rattle.spool_journal.specs.Phases.{Still}
use Rattle.enc_model.specs.Indexes.{IndexSet}
use Rattle.enc_index.specs.Area.{area_byte}
use Rattle.spool_pages.specs.View.{SlotRecord, AreAt, first_page, slot_bytes, row_bytes}
use Rattle.spool_pages.specs.View.{index_place, slot_place, row_place}
use Rattle.spool_pages.specs.declared.version.Version.{Version}

-- Only reads were made. A disk with these bytes, all synced, still has them, and so has every crash image in between;
-- they are then what the reads gave.
pub record OnlyReads {D : Type 0} (disk : Ghosts D) (old new : D) : Type 0 where
  pub size : disk.size new ≡ disk.size old
  pub honest : disk.honest old → disk.honest new
  pub back : disk.honest new → disk.honest old
  pub grew : MoreReads (disk.reads old) (disk.reads new)
  pub gave : disk.honest old → (bytes : ℕ → ℕ) → Still bytes (disk.current old) (disk.unsynced old)
      → ReadsGave bytes (disk.reads old) (disk.reads new)
  pub still : disk.honest old → (bytes : ℕ → ℕ) → Still bytes (disk.current old) (disk.unsynced old)
      → Still bytes (disk.current new) (disk.unsynced new)
  pub lasts : disk.honest old → (bytes : ℕ → ℕ) → Still bytes (disk.current old) (disk.unsynced old)
      → Lasts disk old new (λ image. (p : ℕ) → image p ≡ bytes p)

-- The disk begins as a spool of this many text blocks, and has room for it.
pub record EncodesBlocks (size : ℕ) (current : ℕ → ℕ) (blocks : ℕ) : Type 0 where
  pub least : LEAST_BLOCKS ≤ blocks
  pub most : blocks ≤ MOST_BLOCKS
  pub room : PAGE * all_pages blocks ≤ size
  pub prefix : (i : ℕ) → i < 12 → current i ≡ get_or (first_page blocks) i 0

-- Its gate is open, so a journal has to be replayed.
pub record NeedsReplay (size : ℕ) (current : ℕ → ℕ) : Type 0 where
  pub blocks : ℕ
  pub encodes : EncodesBlocks size current blocks
  pub gate : current PAGE ≡ 165

-- The buffer has the bytes from the place on.
pub record IsReadAt (bytes : ℕ → ℕ) (place : ℕ) (buf : List ℕ) : Type 0 where
  pub each : (i : ℕ) → i < length buf → get_or buf i 0 ≡ bytes (place + i)

-- The list is a prefix of another.
pub record IsPrefixOf {A : Type 0} (whole prefix : List (Option A)) : Type 0 where
  pub few : length prefix ≤ length whole
  pub each : (k : ℕ) → k < length prefix → get_or prefix k None ≡ get_or whole k None

-- The two lists agree below `end`.
pub record IsSameTo {A : Type 0} (end : ℕ) (whole list : List (Option A)) : Type 0 where
  pub each : (k : ℕ) → k < end → get_or list k None ≡ get_or whole k None

-- The list has no row from this place on.
pub record IsFreeFrom {A : Type 0} (start : ℕ) (list : List (Option A)) : Type 0 where
  pub each : (k : ℕ) → start ≤ k → get_or list k None ≡ None

-- The parts of a spool of n blocks.

-- The index area is that of the set.
pub record AreaIsAt (bytes : ℕ → ℕ) (n : ℕ) (x : IndexSet) : Type 0 where
  pub each : (i : ℕ) → i < 90112 → bytes (index_place n + i) ≡ area_byte x i

-- Page 0 is that of a spool, and the index area is that of the set.
pub record FieldsAreAt (bytes : ℕ → ℕ) (n : ℕ) (x : IndexSet) : Type 0 where
  pub first : AreAt bytes 0 PAGE (first_page n)
  pub area : AreaIsAt bytes n x

-- The first slots have these records, or are free, in this version.
pub record SlotsAreAt (bytes : ℕ → ℕ) (n : ℕ) (version : Version) (slots : List (Option SlotRecord)) : Type 0 where
  pub each : (s : ℕ) → s < length slots → AreAt bytes (slot_place n s) 2048
      (slot_bytes version (get_or slots s None))

-- The blocks below `end` have these rows, with zeros after the last one.
pub record RowsAreAt (bytes : ℕ → ℕ) (n end : ℕ) (rows : List (Option (ℕ × ℕ))) : Type 0 where
  pub each : (b : ℕ) → b < end → AreAt bytes (row_place n b) 8 (row_bytes (get_or rows b None))
