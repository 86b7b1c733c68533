-- The errors of reading a spool.
use Rattle.std.specs.Prelude.{Result, Ok, Err}
use Rattle.common.specs.declared.stop.Stop.TheVariants.{NoMemory}
use Rattle.spool_catalog.specs.declared.error.CheckError.{CheckError}
use Rattle.spool_catalog.specs.declared.error.CheckError.TheVariants as checks
use Rattle.spool_catalog.specs.declared.error.OpenFault.{OpenFault}
use Rattle.spool_catalog.specs.declared.error.OpenFault.TheVariants as opens
use Rattle.spool_load.specs.declared.error.LoadError.{LoadError}
use Rattle.spool_load.specs.declared.error.LoadError.TheVariants.{Stop, Damaged}

-- The error of a check.
abbrev pub check_fault : CheckError → LoadError
check_fault checks.Damaged = Damaged
check_fault checks.NoMemory = Stop NoMemory

-- The error of an opening.
abbrev pub load_fault : LoadError → OpenFault
load_fault (Stop stop) = opens.Stop stop
load_fault Damaged = opens.Damaged

-- An error that doesn't depend on the disk's bytes.
abbrev pub IsStopError : LoadError → Type 0
IsStopError (Stop stop) = Unit {0}
IsStopError Damaged = ⊥

-- The result: it is read, or refused when out of memory or at a disk fault.
abbrev pub Loads : {T : Type 0} → Result T LoadError → (T → Type 0) → Type 0
Loads (Ok t) done = done t
Loads (Err e) done = IsStopError e
