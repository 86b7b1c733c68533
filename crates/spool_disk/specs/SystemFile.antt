-- The record of a file of the operating system.
use Rattle.std.specs.Prelude.{List}
use Rattle.spool_disk.specs.declared.positioned.Made.{Made}
use Rattle.spool_disk.specs.declared.system_file.SystemFile.{SystemFile}

-- The calls that were made of it, the latest first.
abbrev pub calls_of : SystemFile → List Made
calls_of file = file.log.items
