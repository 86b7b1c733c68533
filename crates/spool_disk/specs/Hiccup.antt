-- The parts of a disk with one failing call, and its calls.
use Rattle.std.specs.Prelude.{◌≡◌, ◌⊎◌, ◌+◌, ℕ, Option, Some, None, min, replicate}
use Rattle.spool_disk.specs.Disk.{Counts, Writes}
use Rattle.spool_disk.specs.declared.disk.Disk.{Ghosts}
use Rattle.spool_disk.specs.declared.hiccup.HiccupDisk.{HiccupDisk}

-- The inner disk.
abbrev pub within_of : {D : Type 0} → HiccupDisk D → D
within_of disk = disk.inner

-- How many calls pass before the failing one; none after it.
abbrev pub wait_of : {D : Type 0} → HiccupDisk D → Option ℕ
wait_of disk = disk.wait

-- The byte that a failing write leaves.
abbrev pub fill_of : {D : Type 0} → HiccupDisk D → Option ℕ
fill_of disk = disk.fill

-- How many calls it failed itself.
abbrev pub missed_of : {D : Type 0} → HiccupDisk D → ℕ
missed_of disk = disk.missed

-- A call. The one that is due fails, and no later one does. Otherwise the inner disk is asked, and one fewer is waited
-- for.
pub record Waits {D : Type 0} (within : D → D → Type 0) (failed : Type 0) (old new : HiccupDisk D) : Type 0 where
  pub misses : wait_of old ≡ Some 0 → failed × (wait_of new ≡ None)
  pub passes : (wait_of old ≡ Some 0 → ⊥) → (missed_of new ≡ missed_of old) × within (within_of old) (within_of new)
  pub waits : (calls : ℕ) → wait_of old ≡ Some (calls + 1) → wait_of new ≡ Some calls
  pub over : wait_of old ≡ None → wait_of new ≡ None
  pub fill : fill_of new ≡ fill_of old

-- The n places from `at` on, but 65,536 at most, hold this byte, and all else is as before. Or the disk failed at this
-- write.
abbrev pub Fills : {D : Type 0} (disk : Ghosts D) → (at n byte : ℕ) → D → D → Type 0
Fills disk at n byte old new =
    let written : Type 0 → Type 0 = λ done. Writes at (replicate (min n 65536) byte) done (disk.current old)
    (disk.current new) (disk.unsynced old) (disk.unsynced new) in
    written (Unit {0}) ⊎ (Counts (Unit {0}) (disk.failures old) (disk.failures new) × written ⊥)

-- What a failing write of n bytes leaves on the inner disk, with a byte to fill with or without one.
pub record Leaves {D : Type 0} (disk : Ghosts D) (at n : ℕ) (old new : HiccupDisk D) : Type 0 where
  pub filled : (byte : ℕ) → fill_of old ≡ Some byte → disk.honest (within_of old)
      → Fills disk at n byte (within_of old) (within_of new)
  pub unfilled : fill_of old ≡ None → within_of new ≡ within_of old
