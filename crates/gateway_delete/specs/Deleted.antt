-- What `delete` makes of the spool in a file.
use Rattle.std.specs.Prelude.{◌≡◌, ℕ, Bool, true, false, List, [], ◌∷◌, Option, Result, Ok, Err, IfErr, IfOk}
use Rattle.std.specs.Prelude.{IsErrAnd, IsOk, None, OnOk, Some, flat_map}
use Rattle.std.specs.Io.KnownBytes.{Appends}
use Rattle.common.specs.declared.stop.Stop.TheVariants.{DiskFault}
use Rattle.spool_disk.specs.Disk.{Counts, IsImage}
use Rattle.spool_disk.specs.Views.{Lasts}
use Rattle.spool_disk.specs.declared.disk.Disk.{Ghosts}
use Rattle.upload_rules.specs.Store.{Store}
use Rattle.spool_load.specs.Reads.{NeedsReplay}
use Rattle.spool_load.specs.Refusals.{HasOtherVersion, IsDamaged, IsNoSpool}
use Rattle.spool_image.specs.LeftOnly.{AllShow, IsSpool, LeftOrShows}
use Rattle.spool_image.specs.Opening.{ReadsBy}
use Rattle.gateway_outside.specs.Changing.{IsChangeResult}
use Rattle.gateway_outside.specs.Failures.{fault_in}
use Rattle.gateway_outside.specs.Leaving.{LeavesOne}
use Rattle.gateway_outside.specs.Listing.{AnswersAs, IsListResult, ListRefusedFor, RefusesListAs}
use Rattle.gateway_outside.specs.Openings.{EndsWellBut, OpensOr}
use Rattle.gateway_outside.specs.SpoolFiles.{Disks, OnlyRead}
use Rattle.gateway_outside.specs.declared.failures.Failure.{Failure}
use Rattle.gateway_outside.specs.declared.faults.Fault.{Fault}
use Rattle.gateway_outside.specs.declared.openings.Unopened.{Unopened}
use Rattle.gateway_outside.specs.declared.faults.Fault.TheVariants.{Damaged, Io, NoSuch, NotASpool, Stop, Version}
use Rattle.gateway_delete.specs.declared.incomplete.Incomplete.{Incomplete}
use Rattle.gateway_delete.specs.Deleting.{Finds, all_there, deletion_lines, doomed_line, left, stages}

-- UPLOADS OF A DISK ARE DELETED, from what the output had to what it has: all that `delete_on` promises
pub record Deletes {D : Type 0} (disk : Ghosts D) (d d' : D) (numbers : List ℕ) (before after : Option (List ℕ))
    (result : Result Bool Fault) : Type 0
  where
    pub shows : (n : ℕ) (m : Store) → IsSpool disk d n m → IsOk result → AllShow disk d' n (left m numbers)
    pub lines : (n : ℕ) (m : Store) → IsSpool disk d n m
        → OnOk result (Appends before after (deletion_lines m numbers))
    pub all : (n : ℕ) (m : Store) → IsSpool disk d n m → IfOk result (λ all. all ≡ all_there m numbers)
    pub lasts : (n : ℕ) (m : Store) → IsSpool disk d n m → LeavesOne disk d d' n m (stages m numbers)
    pub deletes : (n : ℕ) (m : Store) → IsSpool disk d n m → IsChangeResult result
    pub given : ReadsBy (disk.reads d) (disk.reads d') (AnswersAs (λ m. Appends before after (deletion_lines m numbers)
        × IfOk result (λ all. all ≡ all_there m numbers)) (disk.size d) result)
    pub refused : disk.honest d → IfErr result (ListRefusedFor (disk.size d) (disk.current d))
    pub not_a_spool : disk.honest d → IsNoSpool (disk.size d) (disk.current d) → RefusesListAs result NotASpool
    pub version : disk.honest d → HasOtherVersion (disk.size d) (disk.current d) → RefusesListAs result Version
    pub damaged : disk.honest d → IsDamaged (disk.size d) (disk.current d) → RefusesListAs result Damaged
    pub counts : Counts (result ≡ Err (Stop DiskFault)) (disk.failures d) (disk.failures d')

-- what is answered for that: `NoSuch` where a number had no upload
abbrev pub AnswersDeletion : {T : Type 0} → Result Bool Fault → Result T Failure → Type 0
AnswersDeletion (Ok true) (Ok t) = Unit {0}
AnswersDeletion (Ok true) (Err failure) = ⊥
AnswersDeletion (Ok false) (Ok t) = ⊥
AnswersDeletion (Ok false) (Err failure) = fault_in failure ≡ NoSuch
AnswersDeletion (Err fault) (Ok t) = ⊥
AnswersDeletion (Err fault) (Err failure) = fault_in failure ≡ fault

-- UPLOADS OF THE SPOOL IN A FILE WERE DELETED, and then it was at most looked at
pub record DeletedIn {T D : Type 0} (disk : Ghosts D) (d : D) (numbers : List ℕ) (before after : Option (List ℕ))
    (result : Result T Failure) (d' : D) : Type 0
  where
    pub now : D
    pub answer : Result Bool Fault
    pub deletes : Deletes disk d now numbers before after answer
    pub answers : AnswersDeletion answer result
    pub reads : OnlyRead disk now d'

-- THE UPLOADS OF A DISK THAT AREN'T COMPLETE ARE FOUND: all that `incomplete_on` promises
pub record FindsOn {D : Type 0} (disk : Ghosts D) (d d' : D) (but : List ℕ) (result : Result Incomplete Fault) : Type 0
  where
    pub finds : (n : ℕ) (m : Store) → IsSpool disk d n m → IfOk result (λ found. Finds found m but)
    pub shows : (n : ℕ) (m : Store) → IsSpool disk d n m → IsOk result → AllShow disk d' n m
    pub lasts : (n : ℕ) (m : Store) → IsSpool disk d n m → Lasts disk d d' (LeftOrShows disk d n m)
    pub unwritten : disk.honest d → (NeedsReplay (disk.size d) (disk.current d) → ⊥)
        → Lasts disk d d' (IsImage (disk.current d) (disk.unsynced d))
    pub listed : (n : ℕ) (m : Store) → IsSpool disk d n m → IsListResult result
    pub given : ReadsBy (disk.reads d) (disk.reads d') (AnswersAs (λ m. IfOk result (λ found. Finds found m but))
        (disk.size d) result)
    pub refused : disk.honest d → IfErr result (ListRefusedFor (disk.size d) (disk.current d))
    pub not_a_spool : disk.honest d → IsNoSpool (disk.size d) (disk.current d) → RefusesListAs result NotASpool
    pub version : disk.honest d → HasOtherVersion (disk.size d) (disk.current d) → RefusesListAs result Version
    pub damaged : disk.honest d → IsDamaged (disk.size d) (disk.current d) → RefusesListAs result Damaged
    pub counts : Counts (result ≡ Err (Stop DiskFault)) (disk.failures d) (disk.failures d')

-- WHAT IS DONE WITH THOSE THAT WERE FOUND: without `--yes` none is deleted, and the disk is at most looked at
abbrev pub DoesWith : {T D : Type 0} → Ghosts D → D → Bool → List ℕ → Option (List ℕ) → Option (List ℕ)
    → Result T Failure → D → Type 0
DoesWith disk d sure [] before after result d' = OnlyRead disk d d' × IsOk result × (after ≡ before)
DoesWith disk d true (n ∷ numbers) before after result d' =
    DeletedIn disk d (n ∷ numbers) before after result d'
DoesWith disk d false (n ∷ numbers) before after result d' = OnlyRead disk d d' × EndsWellBut result Io
    × OnOk result (Appends before after (flat_map doomed_line (n ∷ numbers)))

-- where a number to be kept has no upload, none is deleted, and nothing printed
abbrev pub DoesBut : {T D : Type 0} → Ghosts D → D → Bool → Option ℕ → List ℕ → Option (List ℕ) → Option (List ℕ)
    → Result T Failure → D → Type 0
DoesBut disk d sure (Some unknown) numbers before after result d' =
    OnlyRead disk d d' × IsErrAnd result (λ failure. fault_in failure ≡ NoSuch) × (after ≡ before)
DoesBut disk d sure None numbers before after result d' = DoesWith disk d sure numbers before after result d'

-- after the search for them, which may be refused
abbrev pub DoesAfter : {T D : Type 0} → Ghosts D → D → Bool → Result Incomplete Fault → Option (List ℕ)
    → Option (List ℕ) → Result T Failure → D → Type 0
DoesAfter disk d sure (Ok found) before after result d' =
    DoesBut disk d sure found.unknown found.numbers.items before after result d'
DoesAfter disk d sure (Err fault) before after result d' =
    OnlyRead disk d d' × IsErrAnd result (λ failure. fault_in failure ≡ fault) × (after ≡ before)

-- THE INCOMPLETE UPLOADS OF THE SPOOL IN A FILE WERE FOUND, and deleted only with `--yes`
pub record FoundIn {T D : Type 0} (disk : Ghosts D) (d : D) (but : List ℕ) (sure : Bool)
    (before after : Option (List ℕ)) (result : Result T Failure) (d' : D) : Type 0
  where
    pub now : D
    pub found : Result Incomplete Fault
    pub finds : FindsOn disk d now but found
    pub does : DoesAfter disk now sure found before after result d'

-- WHAT THE TWO COMMANDS PROMISE of the file at a path
module _ {T D : Type 0} (disk : Ghosts D) (holds holds' : Disks D → Type 0) (shut shut' : List Unopened)
    (path : List ℕ) (before after : Option (List ℕ)) (result : Result T Failure) where
  abbrev pub DeletesAt : List ℕ → Type 0
  DeletesAt numbers = OpensOr holds holds' shut shut' path before after result
      (λ d d'. DeletedIn disk d numbers before after result d')

  abbrev pub FindsAt : List ℕ → Bool → Type 0
  FindsAt but sure = OpensOr holds holds' shut shut' path before after result
      (λ d d'. FoundIn disk d but sure before after result d')
