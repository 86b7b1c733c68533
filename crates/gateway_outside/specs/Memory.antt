-- A spool's file in memory.
use Rattle.std.specs.Prelude.{ℕ, List, Option, string_bytes}
use Rattle.spool_disk.specs.declared.memory.MemoryDisk.{MemoryDisk}
use Rattle.gateway_outside.specs.declared.memory.MemoryFile.{MemoryFile}
use Rattle.gateway_outside.specs.declared.openings.Unopened.{Unopened}

-- its path, the disk that is there while it is closed, and which openings failed
abbrev pub path_at : MemoryFile → List ℕ
path_at file = string_bytes file.path

abbrev pub disk_at : MemoryFile → Option MemoryDisk
disk_at file = file.disk

abbrev pub unopened_at : MemoryFile → List Unopened
unopened_at file = file.log.items
