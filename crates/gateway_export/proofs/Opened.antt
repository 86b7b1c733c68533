-- Why a spool isn't opened.
use Rattle.std.proofs.Common.{◌≡◌}
use Rattle.spool_catalog.specs.declared.error.OpenFault.{OpenFault}
use Rattle.spool_catalog.specs.declared.error.OpenFault.TheVariants.{Damaged, NotASpool, Stop, Version}
use Rattle.gateway_outside.specs.Faults.{open_fault}
use Rattle.gateway_outside.specs.declared.faults.Fault.{Fault}
use Rattle.gateway_outside.specs.declared.faults.Fault.TheVariants.{Io}

-- never as a stream's refusal
pub opened_never : (e : OpenFault) (f : Fault) → f ≡ open_fault e → f ≡ Io → ⊥
opened_never NotASpool f is io = absurd (cc)
opened_never Damaged f is io = absurd (cc)
opened_never Version f is io = absurd (cc)
opened_never (Stop stop) f is io = absurd (cc)
