-- The parts of a disk whose calls cost a copy and no more.
use Rattle.std.specs.Prelude.{ℕ, List, length}
use Rattle.common.specs.declared.given.GivenRead.{GivenRead}
use Rattle.jobs.specs.declared.ram_disk.RamDisk.{RamDisk}

-- The number of its bytes.
abbrev pub ram_size : RamDisk → ℕ
ram_size disk = length disk.bytes.items

-- What its reads gave, the latest first.
abbrev pub ram_reads : RamDisk → List GivenRead
ram_reads disk = disk.reads.items
