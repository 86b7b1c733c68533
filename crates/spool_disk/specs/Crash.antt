-- What a crash makes of an unsynced byte.
use Rattle.std.specs.Prelude.{ℕ}
use Rattle.spool_disk.specs.declared.crash.Crash.{Crash}
use Rattle.spool_disk.specs.declared.crash.Crash.TheVariants.{Old, New, Torn}

-- The byte after the crash, by its value at the last sync and the written value.
abbrev pub left_by : Crash → ℕ → ℕ → ℕ
left_by Old synced written = synced
left_by New synced written = written
left_by (Torn byte) synced written = byte
