-- What an upgrade is refused for is never told as a stream's.
use Rattle.std.proofs.Common.{◌≡◌, refl, ℕ, Result, Ok, Err}
use Rattle.std.specs.Prelude.{IsErr, IsErrAnd}
use Rattle.common.specs.Counts.{Counts}
use Rattle.spool_catalog.specs.declared.error.OpenFault.TheVariants as opens
use Rattle.spool_image.specs.declared.error.UpgradeError.{UpgradeError}
use Rattle.spool_image.specs.declared.error.UpgradeError.TheVariants.{Open, AlreadyNew}
use Rattle.gateway_outside.specs.Counted.{counts_as}
use Rattle.gateway_outside.specs.Failures.{fault_in}
use Rattle.gateway_outside.specs.Faults.{upgrade_fault}
use Rattle.gateway_outside.specs.Openings.{EndsWellBut}
use Rattle.gateway_outside.specs.declared.failures.Failure.{Failure}
use Rattle.gateway_outside.specs.declared.faults.Fault.{Fault}
use Rattle.gateway_outside.specs.declared.faults.Fault.TheVariants.{Io}

pub never_io : (e : UpgradeError) (fault : Fault) → fault ≡ upgrade_fault e → fault ≡ Io → ⊥
never_io (Open opens.NotASpool) fault is io = absurd (cc)
never_io (Open opens.Damaged) fault is io = absurd (cc)
never_io (Open opens.Version) fault is io = absurd (cc)
never_io (Open (opens.Stop stop)) fault is io = absurd (cc)
never_io AlreadyNew fault is io = absurd (cc)

-- whatever fails is told so
pub io_by : {T : Type 0} (r : Result T Failure) (a b : ℕ) → EndsWellBut r Io → Counts (IsErr r) a b
    → Counts (IsErrAnd r (λ failure. fault_in failure ≡ Io)) a b
io_by (Ok t) a b ends c = counts_as _ _ a b (λ q. absurd q) (λ e. absurd (cc)) c
io_by (Err failure) a b ends c = counts_as _ _ a b (λ q. refl) (λ e. ends) c
