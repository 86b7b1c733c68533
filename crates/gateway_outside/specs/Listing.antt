-- What is answered where the uploads of a spool are to be listed, and what follows from a refusal of the disk.
use Rattle.std.specs.Prelude.{◌≡◌, ◌⊎◌, ℕ, Result, Ok, Err, IfErr, OnOk}
use Rattle.common.specs.declared.stop.Stop.TheVariants.{NoMemory, DiskFault}
use Rattle.spool_journal.specs.Image.{overlaid}
use Rattle.upload_rules.specs.Store.{Store}
use Rattle.spool_catalog.specs.Shows.{Shows}
use Rattle.spool_load.specs.Loaded.{ReadsView}
use Rattle.spool_load.specs.Refusals.{IsNoSpool, ReadsDamage, ReadsOtherVersion}
use Rattle.gateway_outside.specs.declared.faults.Fault.{Fault}
use Rattle.gateway_outside.specs.declared.faults.Fault.TheVariants.{Stop, Damaged, NotASpool, Version, Io}

-- what follows from a refusal of what the opening's reads gave, and of what a read gives before it
abbrev pub ListRefusedBy : ℕ → (ℕ → ℕ) → (ℕ → ℕ) → Fault → Type 0
ListRefusedBy size before after NotASpool = IsNoSpool size before
ListRefusedBy size before after Version = ReadsOtherVersion size before after
ListRefusedBy size before after Damaged = ReadsDamage size before after
ListRefusedBy size before after (Stop stop) = Unit {0}
ListRefusedBy size before after Io = Unit {0}
ListRefusedBy size before after fault = ⊥

abbrev pub ListRefusedFor : ℕ → (ℕ → ℕ) → Fault → Type 0
ListRefusedFor size current = ListRefusedBy size current (overlaid current)

-- WHAT A COMMAND ANSWERS ON ANY DISK, by what its opening's reads gave: it is done, and this holds of the uploads that
-- the view shows, or each refusal has its reason there
pub record AnswersAs {T : Type 0} (So : Store → Type 0) (size : ℕ) (result : Result T Fault) (before after : ℕ → ℕ)
    : Type 0
  where
    pub refused : IfErr result (ListRefusedBy size before after)
    pub done : OnOk result (ReadsView size before after (λ v. (m : Store) → Shows v m → So m))

-- refused with this fault, or out of memory or by the disk
abbrev pub RefusesListAs : {T : Type 0} → Result T Fault → Fault → Type 0
RefusesListAs (Ok t) fault = ⊥
RefusesListAs (Err f) fault = (f ≡ fault) ⊎ (f ≡ Stop NoMemory) ⊎ (f ≡ Stop DiskFault)

-- why lines aren't written: out of memory, or refused by the writer
abbrev pub IsLineFault : Fault → Type 0
IsLineFault f = (f ≡ Stop NoMemory) ⊎ (f ≡ Io)

-- listed, or out of memory, or refused by the disk or the writer
abbrev pub IsListResult : {T : Type 0} → Result T Fault → Type 0
IsListResult (Ok t) = Unit {0}
IsListResult (Err f) = IsLineFault f ⊎ (f ≡ Stop DiskFault)
