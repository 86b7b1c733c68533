-- What a run of a script over the spool in a file comes to.
use Rattle.std.specs.Prelude.{◌≡◌, ◌⊎◌, ℕ, true, false, List, Option, Some, Result, Ok, Err, IsErrAnd, OnErr, bytes_eq}
use Rattle.std.specs.Prelude.{codes}
use Rattle.common.specs.declared.stop.Stop.TheVariants.{NoMemory}
use Rattle.enc_model.specs.Indexes.{no_indexes}
use Rattle.spool_disk.specs.Disk.{Counts}
use Rattle.spool_disk.specs.declared.disk.Disk.{Ghosts}
use Rattle.upload_rules.specs.Store.{Store, no_uploads}
use Rattle.spool_image.specs.LeftOnly.{AllShow, IsSpool}
use Rattle.spool_image.specs.Opening.{OpensExactly, ReadsSame, Unwritten, open_refusal_of}
use Rattle.tus_session.specs.History.{beginning}
use Rattle.gateway_script.specs.Script.{IsScript}
use Rattle.gateway_script.specs.declared.faults.ScriptFault.TheVariants as scripts
use Rattle.gateway_engine.specs.RanFrom.{HasFailedOn, HasRunFrom, RunsBy, WritesOpened, WritesOver, disk_back}
use Rattle.gateway_engine.specs.RanFrom.{opening_in}
use Rattle.gateway_engine.specs.declared.faults.RunFault.{RunFault}
use Rattle.gateway_engine.specs.declared.faults.RunFault.TheVariants as runs
use Rattle.gateway_outside.specs.Failures.{fault_in}
use Rattle.gateway_outside.specs.Faults.{open_fault}
use Rattle.gateway_outside.specs.Openings.{StaysShut}
use Rattle.gateway_outside.specs.SpoolFiles.{Disks, Leaves, OnlyRead}
use Rattle.gateway_outside.specs.declared.failures.Failure.{Failure}
use Rattle.gateway_outside.specs.declared.faults.Fault.{Fault}
use Rattle.gateway_outside.specs.declared.faults.Fault.TheVariants as faults
use Rattle.gateway_outside.specs.declared.openings.Unopened.{Unopened}

-- A RUN THAT ENDED EARLY, as the program's fault
abbrev pub run_fault : RunFault → Fault
run_fault (runs.Open fault) = open_fault fault
run_fault (runs.Script (scripts.Stop stop)) = faults.Stop stop
run_fault (runs.Script (scripts.Script line)) = faults.Script line
run_fault (runs.Script scripts.Io) = faults.Io

-- what is answered for a run
abbrev pub AnswersRun : {T D : Type 0} → Result D (D × RunFault) → Result T Failure → Type 0
AnswersRun (Ok d) (Ok t) = Unit {0}
AnswersRun (Err (d, fault)) (Err failure) = fault_in failure ≡ run_fault fault
AnswersRun (Ok d) (Err failure) = ⊥
AnswersRun (Err e) (Ok t) = ⊥

-- A RUN OVER A DISK, of the script that the reader had and with what was written before and after: what
-- `gateway_engine::run` promises of it. If the disk isn't opened, `none` holds
pub record Runs {D : Type 0} (disk : Ghosts D) (d : D) (run : Result D (D × RunFault))
    (input before after : Option (List ℕ)) (none : Type 0) : Type 0 where
  pub runs : (n : ℕ) (m : Store) → IsSpool disk d n m → (script : List ℕ) × IsScript input script
      × HasRunFrom disk d run after before n (beginning m (Some n)) script
  pub writes : WritesOpened run input after before
  pub given : RunsBy disk d run (WritesOver run input after before)
  pub exact : disk.honest d → OpensExactly (disk.size d) (disk.current d) (open_refusal_of (opening_in run))
  pub unopened : OnErr (opening_in run) none
  pub unwritten : disk.honest d → OnErr (opening_in run) (Unwritten disk d (disk_back run))
  pub same : disk.honest d → OnErr (opening_in run) (ReadsSame disk d (disk_back run) (HasFailedOn run))
  pub counts : Counts (HasFailedOn run) (disk.failures d) (disk.failures (disk_back run))

-- A SCRIPT RAN OVER THE SPOOL IN A FILE, which then was at most looked at
pub record RanIn {T D : Type 0} (disk : Ghosts D) (d : D) (result : Result T Failure)
    (input before after : Option (List ℕ)) (none : Type 0) (d' : D) : Type 0 where
  pub run : Result D (D × RunFault)
  pub runs : Runs disk d run input before after none
  pub answers : AnswersRun run result
  pub reads : OnlyRead disk (disk_back run) d'

-- A SCRIPT RAN OVER A FRESH SPOOL, without uploads and without index files
pub record RanFresh {T D : Type 0} (disk : Ghosts D) (result : Result T Failure)
    (input before after : Option (List ℕ)) (none : Type 0) : Type 0 where
  pub d : D
  pub fresh : AllShow disk d 64 (no_uploads no_indexes)
  pub run : Result D (D × RunFault)
  pub runs : Runs disk d run input before after none
  pub answers : AnswersRun run result

-- or there was no memory for one, and `none` holds
abbrev pub RunsFresh : {T D : Type 0} → Ghosts D → Result T Failure → Option (List ℕ) → Option (List ℕ)
    → Option (List ℕ) → Type 0 → Type 0
RunsFresh disk result input before after none =
    (IsErrAnd result (λ failure. fault_in failure ≡ faults.Stop NoMemory) × none)
    ⊎ RanFresh disk result input before after none

-- it ended for a stream
abbrev pub IsIo : {T : Type 0} → Result T Failure → Type 0
IsIo result = IsErrAnd result (λ failure. fault_in failure ≡ faults.Io)

-- WHAT THE COMMAND PROMISES of the file at a path: a script ran over its spool, or the one call that was to open it
-- failed, and `none` holds. The other files stay
module _ {T D : Type 0} (disk : Ghosts D) (holds holds' : Disks D → Type 0) (shut shut' : List Unopened)
    (path : List ℕ) (result : Result T Failure) (input before after : Option (List ℕ)) (none : Type 0) where
  abbrev pub RunsAt : Type 0
  RunsAt = (disks : Disks D) (d : D) → holds disks → disks path ≡ Some d → Leaves holds' disks path (λ d'.
      IsErrAnd result (λ failure. StaysShut shut shut' path d failure d' × none)
      ⊎ RanIn disk d result input before after none d')

  -- or over a fresh spool in memory for `-`: then no file is asked for
  abbrev pub ScriptsAt : {M : Type 0} → Ghosts M → Type 0 → Type 0
  ScriptsAt memory unasked = (bytes_eq path (codes "-") ≡ false → RunsAt)
      × (bytes_eq path (codes "-") ≡ true → unasked × RunsFresh memory result input before after none)
