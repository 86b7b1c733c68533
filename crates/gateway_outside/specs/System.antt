-- The files of the file system.
use Rattle.std.specs.Prelude.{List}
use Rattle.gateway_outside.specs.declared.openings.Unopened.{Unopened}
use Rattle.gateway_outside.specs.declared.spool_files.SystemFiles.{SystemFiles}

-- which openings failed
abbrev pub unopened_of : SystemFiles → List Unopened
unopened_of files = files.log.items
