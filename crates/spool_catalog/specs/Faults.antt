-- A recovery's refusal as one of opening.
use Rattle.common.specs.declared.stop.Stop.TheVariants.{DiskFault}
use Rattle.spool_journal.specs.declared.error.RecoverError.{RecoverError}
use Rattle.spool_journal.specs.declared.error.RecoverError.TheVariants as recover
use Rattle.spool_catalog.specs.declared.error.OpenFault.{OpenFault}
use Rattle.spool_catalog.specs.declared.error.OpenFault.TheVariants.{Damaged, Stop}

abbrev pub open_fault_of : RecoverError → OpenFault
open_fault_of recover.DiskFault = Stop DiskFault
open_fault_of recover.Damaged = Damaged
