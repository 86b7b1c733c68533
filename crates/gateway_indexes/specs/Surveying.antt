-- What a spool that is opened and surveyed leaves.
use Rattle.std.specs.Prelude.{Result, Ok, Err}
use Rattle.spool_disk.specs.declared.disk.Disk.{Ghosts}
use Rattle.spool_catalog.specs.declared.error.OpenFault.{OpenFault}
use Rattle.spool_image.specs.Spool.{disk_of}
use Rattle.spool_image.specs.declared.spool.Spool.{Spool}
use Rattle.gateway_indexes.specs.declared.surveying.Survey.{Survey}

-- the disk, opened or handed back
abbrev pub disk_left : {D : Type 0} {disk : Ghosts D} → Result (Spool D disk × Survey) (D × OpenFault) → D
disk_left (Ok opened) = disk_of opened.0
disk_left (Err e) = e.0
