-- What is left where no spool is made.
use Rattle.std.specs.Prelude.{◌≡◌, ◌⊎◌, Result, Ok, Err}
use Rattle.spool_image.specs.Format.{IsRefusal}
use Rattle.spool_image.specs.declared.error.FormatError.{FormatError}
use Rattle.spool_image.specs.declared.error.FormatError.TheVariants.{AlreadySpool, DiskFault}

-- nothing was written
abbrev pub IsUnwritten : FormatError → Type 0
IsUnwritten fault = IsRefusal {T = Unit {0}} (Err fault)

-- refused as a spool, or by the disk
abbrev pub RefusesSpool : {D : Type 0} → Result D (D × FormatError) → Type 0
RefusesSpool (Ok d) = ⊥
RefusesSpool (Err e) = (e.1 ≡ AlreadySpool) ⊎ (e.1 ≡ DiskFault)
