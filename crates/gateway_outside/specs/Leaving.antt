-- What a crash may leave of a spool while its uploads are read or changed.
use Rattle.std.specs.Prelude.{◌⊎◌, ◌≤◌, ℕ, List}
use Rattle.spool_disk.specs.Views.{Lasts}
use Rattle.spool_disk.specs.declared.disk.Disk.{Ghosts}
use Rattle.upload_rules.specs.Store.{Store}
use Rattle.spool_image.specs.LeftOnly.{AllShow, LeftOnly, LeftOrShows}
use Rattle.gateway_outside.specs.Changing.{AreAllAmong}

-- From the disk before to the disk now, by way of the disk once it was opened. From then on a crash at any moment
-- leaves one of these stores and so many blocks; and from any earlier moment it leaves what it was limited to before,
-- once these stores are among that
pub record LastsOverOpening {D : Type 0} (disk : Ghosts D) (before now : D) (n : ℕ) (m : Store) (stores : List Store) :
    Type 0 where
  pub opened : D
  pub opening : Lasts disk before opened (LeftOrShows disk before n m)
  pub shown : AllShow disk opened n m
  pub later : disk.moment opened ≤ disk.moment now
  pub since : LeftOnly disk now n (disk.moment opened) stores
  pub always : (t : ℕ) (ms : List Store) → t ≤ disk.moment before → LeftOnly disk before n t ms → AreAllAmong stores ms
      → LeftOnly disk now n t ms

-- the same, or it wasn't opened: then a crash leaves what it might have left before, or what shows the same uploads
abbrev pub LeavesOne : {D : Type 0} → Ghosts D → D → D → ℕ → Store → List Store → Type 0
LeavesOne disk before now n m stores =
    Lasts disk before now (LeftOrShows disk before n m) ⊎ LastsOverOpening disk before now n m stores
