-- What `list` makes of the spool in a file.
use Rattle.std.specs.Prelude.{◌≡◌, ℕ, Bool, true, false, List, [], ◌∷◌, Option, Result, Ok, Err, IfErr, IfOk, IsOk}
use Rattle.std.specs.Prelude.{IsErrAnd, OnOk}
use Rattle.std.specs.Io.KnownBytes.{Appends}
use Rattle.common.specs.declared.stop.Stop.TheVariants.{DiskFault}
use Rattle.spool_disk.specs.Disk.{Counts, IsImage}
use Rattle.spool_disk.specs.Views.{Lasts}
use Rattle.spool_disk.specs.declared.disk.Disk.{Ghosts}
use Rattle.upload_rules.specs.Store.{Store}
use Rattle.spool_load.specs.Reads.{NeedsReplay}
use Rattle.spool_load.specs.Refusals.{HasOtherVersion, IsDamaged, IsNoSpool}
use Rattle.spool_image.specs.LeftOnly.{AllShow, IsSpool, LeftOrShows}
use Rattle.spool_image.specs.Opening.{OpeningReadsBy, ReadsBy}
use Rattle.gateway_outside.specs.Changing.{IsChangeResult}
use Rattle.gateway_outside.specs.Failures.{fault_in}
use Rattle.gateway_outside.specs.Leaving.{LeavesOne}
use Rattle.gateway_outside.specs.Listing.{AnswersAs, ListRefusedFor, IsListResult, RefusesListAs}
use Rattle.gateway_outside.specs.Openings.{OpensOr}
use Rattle.gateway_outside.specs.SpoolFiles.{Disks, OnlyRead}
use Rattle.gateway_outside.specs.declared.failures.Failure.{Failure}
use Rattle.gateway_outside.specs.declared.faults.Fault.{Fault}
use Rattle.gateway_outside.specs.declared.faults.Fault.TheVariants.{NotASpool, Version, Damaged, Stop}
use Rattle.gateway_outside.specs.declared.openings.Unopened.{Unopened}
use Rattle.gateway_indexes.specs.declared.surveying.Survey.{Survey}
use Rattle.gateway_list.specs.Json.{WritesJson}
use Rattle.gateway_list.specs.Lines.{list_lines}

-- A LIST OF A DISK'S UPLOADS and its answer, from what the output had to what it has: what `list_on` promises of them
pub record ListsAs {D : Type 0} (disk : Ghosts D) (d d' : D) (long : Bool) (before after : Option (List ℕ))
    (result : Result Survey Fault) : Type 0
  where
    pub lines : (n : ℕ) (m : Store) → IsSpool disk d n m → OnOk result (Appends before after (list_lines long m))
    pub shows : (n : ℕ) (m : Store) → IsSpool disk d n m → IsOk result → AllShow disk d' n m
    pub blocks : (n : ℕ) (m : Store) → IsSpool disk d n m → IfOk result (λ survey. survey.blocks ≡ n)
    pub lasts : (n : ℕ) (m : Store) → IsSpool disk d n m → Lasts disk d d' (LeftOrShows disk d n m)
    pub unwritten : disk.honest d → (NeedsReplay (disk.size d) (disk.current d) → ⊥)
        → Lasts disk d d' (IsImage (disk.current d) (disk.unsynced d))
    pub listed : (n : ℕ) (m : Store) → IsSpool disk d n m → IsListResult result
    pub given : ReadsBy (disk.reads d) (disk.reads d') (AnswersAs (λ m. Appends before after (list_lines long m))
        (disk.size d) result)
    pub refused : disk.honest d → IfErr result (ListRefusedFor (disk.size d) (disk.current d))
    pub not_a_spool : disk.honest d → IsNoSpool (disk.size d) (disk.current d) → RefusesListAs result NotASpool
    pub version : disk.honest d → HasOtherVersion (disk.size d) (disk.current d) → RefusesListAs result Version
    pub damaged : disk.honest d → IsDamaged (disk.size d) (disk.current d) → RefusesListAs result Damaged
    pub counts : Counts (result ≡ Err (Stop DiskFault)) (disk.failures d) (disk.failures d')

-- TEXTS OF A DISK'S UPLOADS WERE READ, after an opening, and this is so for the uploads that this one read: what
-- `losses_on` promises, and `json_on`
pub record ReadsTexts {T D : Type 0} (disk : Ghosts D) (d d' : D) (So : Store → Type 0) (result : Result T Fault) :
    Type 0
  where
    pub shows : (n : ℕ) (m : Store) → IsSpool disk d n m → IsOk result → AllShow disk d' n m
    pub lasts : (n : ℕ) (m : Store) → IsSpool disk d n m → LeavesOne disk d d' n m (m ∷ [])
    pub reads : (n : ℕ) (m : Store) → IsSpool disk d n m → IsChangeResult result
    pub given : OpeningReadsBy (disk.reads d) (disk.reads d') (AnswersAs So (disk.size d) result)
    pub refused : disk.honest d → IfErr result (ListRefusedFor (disk.size d) (disk.current d))
    pub not_a_spool : disk.honest d → IsNoSpool (disk.size d) (disk.current d) → RefusesListAs result NotASpool
    pub version : disk.honest d → HasOtherVersion (disk.size d) (disk.current d) → RefusesListAs result Version
    pub damaged : disk.honest d → IsDamaged (disk.size d) (disk.current d) → RefusesListAs result Damaged
    pub counts : Counts (result ≡ Err (Stop DiskFault)) (disk.failures d) (disk.failures d')

-- what is answered for that: it is done, or refused with the same fault
module _ {S T : Type 0} where
  abbrev pub AnswersSame : Result S Fault → Result T Failure → Type 0
  AnswersSame (Ok s) (Ok t) = Unit {0}
  AnswersSame (Err fault) (Err failure) = fault_in failure ≡ fault
  AnswersSame (Ok s) (Err failure) = ⊥
  AnswersSame (Err fault) (Ok t) = ⊥

-- THE TEXTS OF THE SPOOL IN A FILE WERE READ, and then it was at most looked at
pub record ReadsTextsIn {T D : Type 0} (disk : Ghosts D) (d : D) (So : Store → Type 0) (result : Result T Failure)
    (d' : D) : Type 0
  where
    pub now : D
    pub answer : Result (Unit {0}) Fault
    pub done : (n : ℕ) (m : Store) → IsSpool disk d n m → OnOk answer (So m)
    pub texts : ReadsTexts disk d now So answer
    pub answers : AnswersSame answer result
    pub reads : OnlyRead disk now d'

-- where it is told which have U+FFFD; else they aren't read
abbrev pub TellsLosses : {T D : Type 0} → Ghosts D → D → Bool → Result T Failure → D → Type 0
TellsLosses disk d true result d' = ReadsTextsIn disk d (λ m. Unit {0}) result d'
TellsLosses disk d false result d' = OnlyRead disk d d' × IsOk result

-- how a list ends: where it is done, which texts have U+FFFD is told with the metadata alone, over the same disk
abbrev pub ListEnds : {T D : Type 0} → Ghosts D → D → Bool → Result Survey Fault → Result T Failure → D → Type 0
ListEnds disk d long (Ok survey) result d' = TellsLosses disk d long result d'
ListEnds disk d long (Err fault) result d' =
    OnlyRead disk d d' × IsErrAnd result (λ failure. fault_in failure ≡ fault)

-- THE SPOOL IN A FILE WAS LISTED
pub record ListedIn {T D : Type 0} (disk : Ghosts D) (d : D) (long : Bool) (before after : Option (List ℕ))
    (result : Result T Failure) (d' : D) : Type 0
  where
    pub now : D
    pub answer : Result Survey Fault
    pub lists : ListsAs disk d now long before after answer
    pub ends : ListEnds disk now long answer result d'

-- WHAT THE COMMAND PROMISES of the file at a path
abbrev pub ListsAt : {T D : Type 0} → Ghosts D → (Disks D → Type 0) → (Disks D → Type 0) → List Unopened
    → List Unopened → List ℕ → Option (List ℕ) → Option (List ℕ) → Result T Failure → Bool → Type 0
ListsAt disk holds holds' shut shut' path before after result long =
    OpensOr holds holds' shut shut' path before after result (λ d d'. ListedIn disk d long before after result d')

-- and what the one for JSON does
abbrev pub JsonAt : {T D : Type 0} → Ghosts D → (Disks D → Type 0) → (Disks D → Type 0) → List Unopened
    → List Unopened → List ℕ → Option (List ℕ) → Option (List ℕ) → Result T Failure → Type 0
JsonAt disk holds holds' shut shut' path before after result =
    OpensOr holds holds' shut shut' path before after result
    (λ d d'. ReadsTextsIn disk d (WritesJson before after) result d')
