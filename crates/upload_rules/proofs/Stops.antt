-- A call that was out of memory.
use Rattle.std.proofs.Common.{◌≡◌, Result, Ok, Err}
use Rattle.common.specs.declared.stop.Stop.{Stop}
use Rattle.common.specs.declared.stop.Stop.TheVariants.{NoMemory, DiskFault}
use Rattle.upload_rules.specs.Answers.{DoesOrStops}

pub nothing_done : {T : Type 0} (r : Result T Stop) (done : T → Type 0) {same : Type 0} → r ≡ Err NoMemory → same
    → DoesOrStops r done same
nothing_done (Ok t) done is unchanged = absurd cc
nothing_done (Err NoMemory) done is unchanged = unchanged
nothing_done (Err DiskFault) done is unchanged = tt
