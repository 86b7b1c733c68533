-- Files that spools are in, by their paths, and what a call leaves in one.
use Rattle.std.specs.Prelude.{◌≡◌, List, Option, Some, ℕ, bytes_eq, if◌then◌else◌}
use Rattle.spool_disk.specs.Disk.{IsImage, Preserves}
use Rattle.spool_disk.specs.Views.{Lasts}
use Rattle.spool_disk.specs.declared.disk.Disk.{Ghosts}

-- the disk in the file of each path, where there is one and it isn't open
abbrev pub Disks : Type 0 → Type 0
Disks D = List ℕ → Option D

-- with this disk under this path, or with none, and all else as it was
abbrev pub with_disk : {D : Type 0} → Disks D → List ℕ → Option D → Disks D
with_disk disks path disk = λ other. if bytes_eq other path then disk else disks other

-- under this path is a disk of which this is so, and all else is as it was
pub record Leaves {D : Type 0} (holds : Disks D → Type 0) (disks : Disks D) (path : List ℕ) (P : D → Type 0) :
    Type 0 where
  pub disk : D
  pub held : holds (with_disk disks path (Some disk))
  pub is : P disk

-- whatever is under this path, or nothing: all else is as it was
pub record LeavesOthers {D : Type 0} (holds : Disks D → Type 0) (disks : Disks D) (path : List ℕ) : Type 0 where
  pub there : Option D
  pub held : holds (with_disk disks path there)

-- a disk that was only read: a read gives what it gave, and a crash leaves what it might have left
pub record OnlyRead {D : Type 0} (disk : Ghosts D) (d d' : D) : Type 0 where
  pub size : disk.size d' ≡ disk.size d
  pub honest : disk.honest d → disk.honest d'
  pub preserves : disk.honest d → Preserves (disk.current d) (disk.current d') (disk.unsynced d) (disk.unsynced d')
  pub lasts : disk.honest d → Lasts disk d d' (IsImage (disk.current d) (disk.unsynced d))
