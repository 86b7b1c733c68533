-- An opened spool, and what it represents.
use Rattle.std.specs.Prelude.{◌≡◌, ◌⊎◌, ℕ, Bool, Result, Ok, Err}
use Rattle.common.specs.declared.stop.Stop.TheVariants.{NoMemory, DiskFault}
use Rattle.spool_disk.specs.declared.disk.Disk.{Ghosts}
use Rattle.spool_catalog.specs.declared.error.OpenFault.{OpenFault}
use Rattle.spool_catalog.specs.declared.error.OpenFault.TheVariants.{Stop}
use Rattle.spool_image.specs.declared.spool.Spool.{Spool}
use Rattle.spool_load.specs.Loaded.{OpenedFrom}
use Rattle.spool_pages.specs.View.{View}
use Rattle.spool_catalog.specs.Catalog.{HasViewAlone}
pub use Rattle.spool_image.specs.Opening.{OpensAs}
use Rattle.spool_kept.specs.Drafting.{StandsFor}
use Rattle.upload_rules.specs.World.{World}

abbrev pub disk_of : {D : Type 0} {disk : Ghosts D} → Spool D disk → D
disk_of s = s.disk

-- The number of its text blocks.
abbrev pub block_count_of : {D : Type 0} {disk : Ghosts D} → Spool D disk → ℕ
block_count_of s = s.catalog.layout

-- Its catalog has this view, with no block reserved.
abbrev pub SpoolHasView : {D : Type 0} {disk : Ghosts D} → Spool D disk → View → Type 0
SpoolHasView s v = HasViewAlone s.catalog v

-- Its catalog has a valid view, the one that a read of a disk of this size gave.
abbrev pub OpensFrom : {D : Type 0} {disk : Ghosts D} → ℕ → (ℕ → ℕ) → Spool D disk → Type 0
OpensFrom size current s = OpenedFrom size current s.catalog

-- Its catalog and its drafts represent the world. If that is sure, the disk does too.
abbrev pub SpoolRepresents : {D : Type 0} {disk : Ghosts D} → Spool D disk → Bool → World → Type 0
SpoolRepresents {disk = disk} s sure w = StandsFor sure disk s.disk s.catalog s.drafts.items w

-- The disk, opened or returned.
abbrev pub disk_after : {D : Type 0} {disk : Ghosts D} → Result (Spool D disk) (D × OpenFault) → D
disk_after (Ok s) = s.disk
disk_after (Err e) = e.0

-- There was a disk fault.
abbrev pub IsOpenFault : {D S : Type 0} → Result S (D × OpenFault) → Type 0
IsOpenFault (Ok s) = ⊥
IsOpenFault (Err e) = e.1 ≡ Stop DiskFault

-- It is refused with this error, or when out of memory, or at a disk fault.
abbrev pub RefusesAs : {D S : Type 0} → Result S (D × OpenFault) → OpenFault → Type 0
RefusesAs (Ok s) fault = ⊥
RefusesAs (Err e) fault = (e.1 ≡ fault) ⊎ (e.1 ≡ Stop NoMemory) ⊎ (e.1 ≡ Stop DiskFault)
