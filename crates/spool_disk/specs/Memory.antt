-- The parts of a disk in memory.
use Rattle.std.specs.Prelude.{◌≡◌, ℕ, List, length, get_or, true, false}
use Rattle.common.specs.declared.given.GivenRead.{GivenRead}
use Rattle.spool_disk.specs.declared.memory.MemoryDisk.{MemoryDisk}

-- The number of its bytes.
abbrev pub size_of : MemoryDisk → ℕ
size_of disk = length disk.written.items

-- What a read gives.
abbrev pub memory_bytes : MemoryDisk → ℕ → ℕ
memory_bytes disk p = get_or disk.written.items p 0

-- The bytes of the last sync.
abbrev pub synced_of : MemoryDisk → ℕ → ℕ
synced_of disk p = get_or disk.synced.items p 0

-- The place was written since the last sync.
abbrev pub unsynced_of : MemoryDisk → ℕ → Type 0
unsynced_of disk p = get_or disk.unsynced.items p false ≡ true

-- What its reads gave, the latest first.
abbrev pub reads_of : MemoryDisk → List GivenRead
reads_of disk = disk.reads.items
