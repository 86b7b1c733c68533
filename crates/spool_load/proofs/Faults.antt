-- The error of reading a spool as an error of opening it.
use Rattle.std.proofs.Common.{◌≡◌, ℕ, Err, ap}
use Rattle.std.specs.Prelude.{IsErrOf}
use Rattle.common.specs.declared.stop.Stop.TheVariants.{DiskFault}
use Rattle.spool_catalog.specs.declared.error.CheckError.{CheckError}
use Rattle.spool_catalog.specs.declared.error.CheckError.TheVariants as checks
use Rattle.spool_disk.specs.Disk.{Counts}
use Rattle.spool_catalog.specs.Loads.{LoadsAs}
use Rattle.spool_catalog.specs.declared.error.OpenFault.{OpenFault}
use Rattle.spool_catalog.specs.declared.error.OpenFault.TheVariants as opens
use Rattle.spool_load.specs.Faults.{IsStopError, check_fault, load_fault}
use Rattle.spool_load.specs.declared.error.LoadError.{LoadError}
use Rattle.spool_load.specs.declared.error.LoadError.TheVariants.{Stop, Damaged}

-- a check meets no disk fault, and out of memory nothing follows of the disk
pub check_sound : (e : CheckError) → check_fault e ≡ Stop DiskFault → ⊥
check_sound checks.Damaged is = cc
check_sound checks.NoMemory is = cc

pub check_reported : (e : CheckError) → e ≡ checks.NoMemory → IsStopError (check_fault e)
check_reported checks.Damaged is = absurd (cc)
check_reported checks.NoMemory is = tt

-- the disk failed in both
disk_fault_reported : (e : LoadError) → load_fault e ≡ opens.Stop DiskFault → e ≡ Stop DiskFault
disk_fault_reported (Stop stop) is = cc
disk_fault_reported Damaged is = absurd (cc)

pub counts_reported : {T F : Type 0} (e : LoadError) {a b : ℕ} → (F → load_fault e ≡ opens.Stop DiskFault)
    → (load_fault e ≡ opens.Stop DiskFault → F) → Counts (IsErrOf {T = T} (Err e) (Stop DiskFault)) a b → Counts F a b
counts_reported e there back counts = record {
  later = counts.later;
  counted = λ failed. counts.counted (ap Err (disk_fault_reported e (there failed)));
  nothing_else = λ lt.
      let failed = counts.nothing_else lt in
      let device : e ≡ Stop DiskFault = cc in
      back (ap load_fault device);
}

-- nothing follows of the disk in both
pub is_stop_error : {T : Type 0} (e : LoadError) (P : T → Type 0) → IsStopError e
    → LoadsAs {T = T} (Err (load_fault e)) P
is_stop_error (Stop stop) P nothing = tt
is_stop_error Damaged P nothing = absurd nothing

-- a refusal to open from which nothing follows of the disk, handed on
pub loads_err : {T U : Type 0} (P : T → Type 0) (Q : U → Type 0) (e : OpenFault) → LoadsAs {T = T} (Err e) P
    → LoadsAs {T = U} (Err e) Q
loads_err P Q (opens.Stop stop) h = tt
loads_err P Q opens.NotASpool h = absurd h
loads_err P Q opens.Damaged h = absurd h
loads_err P Q opens.Version h = absurd h
