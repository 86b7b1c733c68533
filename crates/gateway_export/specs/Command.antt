-- What `export` makes of the spool in a file and of a folder.
use Rattle.std.specs.Prelude.{◌≡◌, ◌⊎◌, ◌∷◌, ℕ, Bool, true, false, List, [], Option, None, Some, Result, Ok, Err, IfErr}
use Rattle.std.specs.Prelude.{IfOk, IsErrAnd, IsErrOf, IsOk, OnOk}
use Rattle.std.specs.declared.io.ErrorKind.{ErrorKind}
use Rattle.common.specs.declared.stop.Stop.TheVariants.{DiskFault}
use Rattle.spool_disk.specs.Disk.{Counts}
use Rattle.spool_disk.specs.declared.disk.Disk as disks
use Rattle.upload_rules.specs.Store.{Store}
use Rattle.spool_load.specs.Refusals.{HasOtherVersion, IsDamaged, IsNoSpool}
use Rattle.spool_image.specs.LeftOnly.{AllShow, IsSpool}
use Rattle.spool_image.specs.Opening.{OpeningReadsBy}
use Rattle.gateway_outside.specs.Changing.{IsChangeResult}
use Rattle.gateway_outside.specs.Failures.{fault_in}
use Rattle.gateway_outside.specs.Faults.{reading_fault}
use Rattle.gateway_outside.specs.Files.{Files}
use Rattle.gateway_outside.specs.Leaving.{LeavesOne}
use Rattle.gateway_outside.specs.Listing.{AnswersAs, ListRefusedFor, RefusesListAs}
use Rattle.gateway_outside.specs.Openings.{FailedToOpen}
use Rattle.gateway_outside.specs.SpoolFiles.{Disks, Leaves, OnlyRead, with_disk}
use Rattle.gateway_outside.specs.declared.failures.Failure.{Failure}
use Rattle.gateway_outside.specs.declared.faults.Fault.{Fault}
use Rattle.gateway_outside.specs.declared.faults.Fault.TheVariants.{Damaged, FileDiffers, Io, NotASpool, Stop, Version}
use Rattle.gateway_outside.specs.declared.openings.Unopened.{Unopened}
use Rattle.gateway_export.specs.Exporting.{Exports, ExportsAs, ExportsSome, HoldsEach, Tells, TellsOf, exported}
use Rattle.gateway_export.specs.Exporting.{some_amiss, some_differ}
use Rattle.gateway_export.specs.Folders.{HoldsAll, StillLast}
use Rattle.gateway_export.specs.Places.{search_for}
use Rattle.gateway_export.specs.Planning.{jobs_of}
use Rattle.gateway_export.specs.Refused.{IsStop, RefusedAs, UnreadAs}
use Rattle.gateway_export.specs.declared.exporting.ExportTally.{ExportTally}
use Rattle.gateway_export.specs.declared.folders.Folder as folders
use Rattle.gateway_export.specs.declared.places.FolderSearch.{FolderSearch}

-- TEXTS OF A DISK ARE WRITTEN INTO A FOLDER, by what the writer has and refused before and after: all that `export_on`
-- promises
pub record ExportsOn {D F B : Type 0} (disk : disks.Ghosts D) (folder : folders.Ghosts F B) (d d' : D) (f f' : F)
    (all : Bool) (before after : Option (List ℕ)) (writer writer' : ℕ) (result : Result ExportTally Fault) : Type 0
  where
    pub files : (n : ℕ) (m : Store) → IsSpool disk d n m → (files : Files) → folder.holds f files
        → OnOk result (folder.holds f' (exported m files (jobs_of (folder.takes f) all m)))
    pub texts : (n : ℕ) (m : Store) → IsSpool disk d n m → (files : Files) → folder.holds f files
        → OnOk result (Exports (folder.holds f') m (jobs_of (folder.takes f) all m) files)
    pub preserves : (files : Files) → folder.holds f files → HoldsAll (folder.holds f') files
    pub still : StillLast (folder.lasting f) (folder.lasting f')
    pub each : (n : ℕ) (m : Store) → IsSpool disk d n m → (files : Files) → folder.holds f files
        → IfOk result (λ done. some_amiss done ≡ false
        → HoldsEach (folder.holds f') (folder.lasting f') m (jobs_of (folder.takes f) all m))
    pub whole : (n : ℕ) (m : Store) → IsSpool disk d n m → (files : Files) → folder.holds f files
        → ExportsSome (folder.holds f') m (jobs_of (folder.takes f) all m) files
    pub differs : (n : ℕ) (m : Store) → IsSpool disk d n m → (files : Files) → folder.holds f files
        → IfOk result (λ done. TellsOf done.differs done.unread (some_differ m files (jobs_of (folder.takes f) all m)))
    pub tells : (n : ℕ) (m : Store) → IsSpool disk d n m → (files : Files) → folder.holds f files
        → IfOk result (Tells m files (jobs_of (folder.takes f) all m) before after)
    pub shows : (n : ℕ) (m : Store) → IsSpool disk d n m → IsOk result → AllShow disk d' n m
    pub lasts : (n : ℕ) (m : Store) → IsSpool disk d n m → LeavesOne disk d d' n m (m ∷ [])
    pub exports : (n : ℕ) (m : Store) → IsSpool disk d n m → IsChangeResult result
    pub given : OpeningReadsBy (disk.reads d) (disk.reads d') (AnswersAs (λ m. (files : Files) → folder.holds f files
        → ExportsAs false true (folder.holds f') m (jobs_of (folder.takes f) all m) files) (disk.size d) result)
    pub refused : disk.honest d → IfErr result (ListRefusedFor (disk.size d) (disk.current d))
    pub not_a_spool : disk.honest d → IsNoSpool (disk.size d) (disk.current d) → RefusesListAs result NotASpool
    pub version : disk.honest d → HasOtherVersion (disk.size d) (disk.current d) → RefusesListAs result Version
    pub damaged : disk.honest d → IsDamaged (disk.size d) (disk.current d) → RefusesListAs result Damaged
    pub counts : Counts (result ≡ Err (Stop DiskFault)) (disk.failures d) (disk.failures d')
    pub io : RefusedAs (IsErrOf result Io) (IsErrAnd result IsStop) writer writer' (folder.refusals f)
        (folder.refusals f')
    pub unread : UnreadAs result (folder.unread f) (folder.unread f')

-- what is answered where a file that was there is amiss: `Io` where one couldn't be read, else `FileDiffers`
abbrev pub AnswersAmiss : Bool → Bool → Fault → Type 0
AnswersAmiss true differs fault = fault ≡ Io
AnswersAmiss false true fault = fault ≡ FileDiffers
AnswersAmiss false false fault = ⊥

-- WHAT IS ANSWERED OF AN EXPORT
abbrev pub AnswersExport : {T : Type 0} → Result ExportTally Fault → Result T Failure → Type 0
AnswersExport (Ok done) (Ok t) = some_amiss done ≡ false
AnswersExport (Ok done) (Err failure) = AnswersAmiss done.unread done.differs (fault_in failure)
AnswersExport (Err fault) (Ok t) = ⊥
AnswersExport (Err fault) (Err failure) = fault_in failure ≡ fault

-- THE TEXTS OF THE SPOOL IN A FILE WERE WRITTEN into a folder, and then it was at most looked at
pub record ExportedIn {T D F B : Type 0} (disk : disks.Ghosts D) (folder : folders.Ghosts F B) (d : D) (f f' : F)
    (all : Bool) (before after : Option (List ℕ)) (writer writer' : ℕ) (result : Result T Failure) (d' : D) : Type 0
  where
    pub now : D
    pub answer : Result ExportTally Fault
    pub exports : ExportsOn disk folder d now f f' all before after writer writer' answer
    pub answers : AnswersExport answer result
    pub reads : OnlyRead disk now d'

-- WHAT IS TOLD OF IT, whatever the files: `Io` by what the writer and the folder refused
pub record ToldIn {T F B : Type 0} (folder : folders.Ghosts F B) (f f' : F) (writer writer' : ℕ)
    (result : Result T Failure) : Type 0
  where
    pub answer : Result ExportTally Fault
    pub io : RefusedAs (IsErrOf answer Io) (IsErrAnd answer IsStop) writer writer' (folder.refusals f)
        (folder.refusals f')
    pub unread : UnreadAs answer (folder.unread f) (folder.unread f')
    pub answers : AnswersExport answer result

-- or the spool's file wasn't opened, by the one call that was to do it. Then nothing was printed, and the folder is as
-- it was
pub record StaysOut {T F : Type 0} (shut shut' : List Unopened) (spool : List ℕ) (f f' : F)
    (before after : Option (List ℕ)) (writer writer' : ℕ) (result : Result T Failure) : Type 0
  where
    pub why : IsErrAnd result (FailedToOpen shut shut' spool)
    pub same : f' ≡ f
    pub unprinted : after ≡ before
    pub unrefused : writer' ≡ writer

-- WHAT THE COMMAND PROMISES of the spool in the file at a path, and of the folder at another
module _ {T D F B : Type 0} (disk : disks.Ghosts D) (folder : folders.Ghosts F B) (holds holds' : Disks D → Type 0)
    (shut shut' : List Unopened) (spool : List ℕ) (before after : Option (List ℕ)) (writer writer' : ℕ)
    (result : Result T Failure) where
  -- in this folder, as it was found and as it was left
  abbrev pub ExportsInto : Bool → F → F → Type 0
  ExportsInto all f f' = (disks : Disks D) (d : D) → holds disks → disks spool ≡ Some d → Leaves holds' disks spool
      (λ d'. (StaysOut shut shut' spool f f' before after writer writer' result × (d' ≡ d))
      ⊎ ExportedIn disk folder d f f' all before after writer writer' result d')

  -- the folder at this path was found by one call, and left
  pub record FindsPlace (all : Bool) (have have' : Disks F → Type 0) (searches searches' : List FolderSearch)
      (path : List ℕ) : Type 0
    where
      pub found : F
      pub left : F
      pub search : searches' ≡ search_for path None ∷ searches
      pub kept : (there : Disks F) → have there
          → (there path ≡ Some found) × have' (with_disk there path (Some left))
      pub exports : ExportsInto all found left
      pub tells : StaysOut shut shut' spool found left before after writer writer' result
          ⊎ ToldIn folder found left writer writer' result

  -- or that call failed, and nothing else was done
  pub record MissesPlace (have have' : Disks F → Type 0) (searches searches' : List FolderSearch) (path : List ℕ)
      (Untouched : Type 0) : Type 0
    where
      pub kind : ErrorKind
      pub search : searches' ≡ search_for path (Some kind) ∷ searches
      pub answer : IsErrAnd result (λ failure. fault_in failure ≡ reading_fault kind)
      pub untouched : Untouched
      pub kept : (there : Disks F) → have there → have' there

  abbrev pub ExportsAt : Bool → (Disks F → Type 0) → (Disks F → Type 0) → List FolderSearch → List FolderSearch
      → List ℕ → Type 0 → Type 0
  ExportsAt all have have' searches searches' path Untouched =
      FindsPlace all have have' searches searches' path ⊎ MissesPlace have have' searches searches' path Untouched
