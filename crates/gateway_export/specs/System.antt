-- A folder of the file system.
use Rattle.std.specs.Prelude.{ℕ}
use Rattle.gateway_export.specs.declared.folders.FileFolder.{FileFolder}

-- how many calls it refused that look for a file or write one, and how many that read one or make it last
abbrev pub refusals_of : FileFolder → ℕ
refusals_of folder = folder.refusals

abbrev pub unread_of : FileFolder → ℕ
unread_of folder = folder.unread
