-- The parts of a disk over a file.
use Rattle.std.specs.Prelude.{ℕ, Option, List}
use Rattle.std.specs.declared.io.Error.{Error}
use Rattle.spool_disk.specs.declared.positioned.Made.{Made}
use Rattle.spool_disk.specs.SystemFile.{calls_of}
use Rattle.spool_disk.specs.declared.file.PositionedDisk.{PositionedDisk}
use Rattle.spool_disk.specs.declared.system_file.SystemFile.{SystemFile}

module _ {F : Type 0} where
  abbrev pub file_of : PositionedDisk F → F
  file_of disk = disk.file

  -- The number of its bytes.
  abbrev pub length_of : PositionedDisk F → ℕ
  length_of disk = disk.len

  -- How many calls failed.
  abbrev pub failed_in : PositionedDisk F → ℕ
  failed_in disk = disk.failed

  -- The error of the latest failed call.
  abbrev pub latest_error : PositionedDisk F → Option Error
  latest_error disk = disk.error

-- The calls that were made of a file of the operating system.
abbrev pub calls_in : PositionedDisk SystemFile → List Made
calls_in disk = calls_of disk.file
