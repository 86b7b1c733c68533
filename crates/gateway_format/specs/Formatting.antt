-- What `format` makes of a file, and what it prints.
use Rattle.std.specs.Prelude.{◌≡◌, ◌⊎◌, ◌<◌, max, ℕ, Bool, true, false, List, Option, None, Some, Result, Ok, Err}
use Rattle.std.specs.Prelude.{IfErr, IfOk, IfSome, IsErr, IsErrAnd, OnOk}
use Rattle.std.specs.Io.KnownBytes.{Appends}
use Rattle.std.specs.declared.io.ErrorKind.{ErrorKind}
use Rattle.common.specs.declared.limits.TheConstants.{LEAST_BLOCKS, MOST_BLOCKS}
use Rattle.common.specs.declared.stop.Stop.TheVariants.{DiskFault}
use Rattle.enc_model.specs.Indexes.{IndexSet}
use Rattle.spool_disk.specs.declared.disk.Disk.{Ghosts}
use Rattle.spool_journal.specs.Image.{all_pages}
use Rattle.upload_rules.specs.Store.{Store, no_uploads}
use Rattle.spool_catalog.specs.Raising.{raised}
use Rattle.spool_image.specs.Format.{HasMagic}
use Rattle.spool_image.specs.LeftOnly.{AllShow}
use Rattle.spool_image.specs.Raise.{latest}
use Rattle.gateway_outside.specs.Failures.{fault_in}
use Rattle.gateway_outside.specs.Faults.{lengthening_fault, opening_fault}
use Rattle.gateway_outside.specs.Openings.{EndsWellBut}
use Rattle.gateway_outside.specs.SpoolFiles.{Disks, Leaves, LeavesOthers, OnlyRead}
use Rattle.gateway_outside.specs.declared.failures.Failure.{Failure}
use Rattle.gateway_outside.specs.declared.faults.Fault.{Fault}
use Rattle.gateway_outside.specs.declared.faults.Fault.TheVariants as faults
use Rattle.gateway_indexes.specs.Folders.{Folders, IsUnwanted, ReadsFolder}
use Rattle.gateway_indexes.specs.Found.{AreStandard}
use Rattle.gateway_indexes.specs.declared.folders.FolderCall.{FolderCall}
use Rattle.gateway_indexes.specs.declared.index_files.IndexFile.{IndexFile}
use Rattle.gateway_format.specs.Blanks.{IsBlank}
use Rattle.gateway_format.specs.Reports.{formatted_lines}
use Rattle.gateway_format.specs.declared.formatting.Made.{Made}

-- a disk that is there is one that keeps its word
abbrev pub IsHonestAt : {D : Type 0} → Ghosts D → Disks D → List ℕ → Type 0
IsHonestAt {D} disk disks path = (d : D) → disks path ≡ Some d → disk.honest d

-- WHY A FILE THAT IS THERE BECOMES NO SPOOL: it is one, it has bytes and may not be overwritten, or the disk failed
abbrev pub IsRefusedFor : ℕ → (ℕ → ℕ) → Bool → Fault → Type 0
IsRefusedFor size current overwrite fault = ((fault ≡ faults.AlreadySpool) × HasMagic size current)
    ⊎ ((fault ≡ faults.NotEmpty) × (overwrite ≡ false) × (IsBlank size current → ⊥))
    ⊎ (fault ≡ faults.Stop DiskFault)

-- WHY NO SPOOL IS MADE: the number of blocks is out of range, or what is there then is a spool, or has bytes and may
-- not be overwritten; else the system or the disk refused, or there was no room
pub data IsReason {D : Type 0} (disk : Ghosts D) (holds : Disks D → Type 0) (disks : Disks D) (path : List ℕ)
    (blocks : ℕ) (overwrite : Bool) : Fault → Type 0
  where
    size : (blocks < LEAST_BLOCKS) ⊎ (MOST_BLOCKS < blocks)
        → IsReason disk holds disks path blocks overwrite faults.Size
    spool : Leaves holds disks path (λ d. HasMagic (disk.size d) (disk.current d))
        → IsReason disk holds disks path blocks overwrite faults.AlreadySpool
    foreign : overwrite ≡ false → Leaves holds disks path (λ d. IsBlank (disk.size d) (disk.current d) → ⊥)
        → IsReason disk holds disks path blocks overwrite faults.NotEmpty
    unopened : (kind : ErrorKind) → IsReason disk holds disks path blocks overwrite (opening_fault kind)
    unlengthened : (kind : ErrorKind) → IsReason disk holds disks path blocks overwrite (lengthening_fault kind)
    failed : IsReason disk holds disks path blocks overwrite (faults.Stop DiskFault)
    full : IsReason disk holds disks path blocks overwrite faults.CannotOpen

-- what a new spool shows: no uploads, and 1 or a later number for the next one
abbrev pub begun_at : Option ℕ → IndexSet → Store
begun_at None set = no_uploads set
begun_at (Some first) set = raised (no_uploads set) (max 1 first)

-- A SPOOL IS MADE in the file at a path, or it is refused. Refused or not, the other files stay
pub record Formats {D : Type 0} (disk : Ghosts D) (holds holds' : Disks D → Type 0) (path : List ℕ) (blocks : ℕ)
    (set : IndexSet) (overwrite : Bool) (first : Option ℕ) (answer : Result Made Failure) : Type 0
  where
    pub too_large : IfSome first (λ n. latest < n → ((disks : Disks D) → holds disks → holds' disks)
        × IsErrAnd answer (λ failure. fault_in failure ≡ faults.NumberTooLarge))
    pub untouched : (disks : Disks D) (d : D) → holds disks → disks path ≡ Some d → disk.honest d
        → HasMagic (disk.size d) (disk.current d) → IsErr answer × Leaves holds' disks path (OnlyRead disk d)
    pub foreign : (disks : Disks D) (d : D) → holds disks → disks path ≡ Some d → disk.honest d
        → (IsBlank (disk.size d) (disk.current d) → ⊥) → overwrite ≡ false
        → IsErr answer × Leaves holds' disks path (OnlyRead disk d)
    pub made : (disks : Disks D) → holds disks
        → OnOk answer (Leaves holds' disks path (λ d. AllShow disk d blocks (begun_at first set)))
    pub pages : IfOk answer (λ made. made.pages ≡ all_pages blocks)
    pub others : (disks : Disks D) → holds disks → LeavesOthers holds' disks path
    pub reasons : (disks : Disks D) → holds disks → IsHonestAt disk disks path → first ≡ None
        → IfErr answer (λ failure. IsReason disk holds' disks path blocks overwrite (fault_in failure))

-- what is answered and printed for that
abbrev pub AnswersFormat : ℕ → Option ℕ → Option (List ℕ) → Option (List ℕ) → Result (Unit {0}) Failure
    → Result Made Failure → Type 0
AnswersFormat blocks first before after result (Ok made) =
    EndsWellBut result faults.Io × OnOk result (Appends before after (formatted_lines blocks made.pages first))
AnswersFormat blocks first before after result (Err failure) = (result ≡ Err failure) × (after ≡ before)

-- by the index files of a folder, each of which was read, and is the standard's where it has to be
pub record FormatsBy {D : Type 0} (disk : Ghosts D) (holds holds' : Disks D → Type 0) (have : Folders → Type 0)
    (asked asked' : List FolderCall) (path : List ℕ) (before after : Option (List ℕ))
    (result : Result (Unit {0}) Failure) (blocks : ℕ) (overwrite standard : Bool) (first : Option ℕ)
    (folder : List ℕ) : Type 0
  where
    pub set : IndexSet
    pub files : List IndexFile
    pub read : ReadsFolder have folder asked asked' set files
    pub are_standard : standard ≡ true → AreStandard files
    pub answer : Result Made Failure
    pub formats : Formats disk holds holds' path blocks set overwrite first answer
    pub answers : AnswersFormat blocks first before after result answer

-- nothing was done: the index files couldn't be read, or aren't those that they have to be
pub record Unread {D : Type 0} (holds holds' : Disks D → Type 0) (have : Folders → Type 0)
    (asked asked' : List FolderCall) (before after : Option (List ℕ)) (result : Result (Unit {0}) Failure)
    (standard : Bool) (folder : List ℕ) : Type 0
  where
    pub refused : IsErrAnd result (λ failure. IsUnwanted have folder asked asked' standard (fault_in failure))
    pub kept : (disks : Disks D) → holds disks → holds' disks
    pub unprinted : after ≡ before

-- WHAT THE COMMAND PROMISES of the file at a path, and of the index files of a folder
module _ {D : Type 0} (disk : Ghosts D) (holds holds' : Disks D → Type 0) (have : Folders → Type 0)
    (asked asked' : List FolderCall) (path : List ℕ) (before after : Option (List ℕ))
    (result : Result (Unit {0}) Failure) where
  abbrev pub FormatsAt : ℕ → Bool → Bool → Option ℕ → List ℕ → Type 0
  FormatsAt blocks overwrite standard first folder =
      Unread holds holds' have asked asked' before after result standard folder
      ⊎ FormatsBy disk holds holds' have asked asked' path before after result blocks overwrite standard first folder
