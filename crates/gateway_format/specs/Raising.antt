-- What `raise` makes of the spool in a file.
use Rattle.std.specs.Prelude.{◌≡◌, ◌⊎◌, ◌↔◌, ◌≤◌, ◌<◌, ◌*◌, max, ℕ, List, Option, Result, Ok, Err, IfErr, IfOk}
use Rattle.std.specs.Prelude.{IsErrAnd, OnOk}
use Rattle.std.specs.Io.KnownBytes.{Appends}
use Rattle.common.specs.declared.stop.Stop.TheVariants.{DiskFault}
use Rattle.spool_disk.specs.Disk.{Counts, IsImage, Preserves}
use Rattle.spool_disk.specs.Views.{Lasts}
use Rattle.spool_disk.specs.declared.disk.Disk.{Ghosts}
use Rattle.spool_journal.specs.Image.{all_pages}
use Rattle.spool_journal.specs.declared.TheConstants.{PAGE}
use Rattle.upload_rules.specs.Store.{Store}
use Rattle.spool_pages.specs.Changes.{with_next}
use Rattle.spool_pages.specs.View.{View, IsViewOf}
use Rattle.spool_catalog.specs.declared.error.OpenFault.TheVariants.{Damaged, NotASpool, Stop, Version}
use Rattle.spool_catalog.specs.Raising.{raised}
use Rattle.spool_catalog.specs.Shows.{IsValid}
use Rattle.spool_load.specs.Reads.{NeedsReplay}
use Rattle.spool_load.specs.Recovered.{OfView}
use Rattle.spool_load.specs.Refusals.{HasOtherVersion, IsDamaged, IsNoSpool}
use Rattle.spool_image.specs.LeftOnly.{AllShow, IsSpool}
use Rattle.spool_image.specs.Raise.{IsStopOfRaise, LeftOrRaised, MayRaise, RaisedFrom, RaiseRefusedFor}
use Rattle.spool_image.specs.Raise.{RefusesRaiseAs, latest}
use Rattle.spool_image.specs.declared.error.RaiseError.{RaiseError}
use Rattle.spool_image.specs.declared.error.RaiseError.TheVariants.{Open, TooLarge}
use Rattle.gateway_outside.specs.Failures.{fault_in}
use Rattle.gateway_outside.specs.Faults.{raise_fault}
use Rattle.gateway_outside.specs.Openings.{EndsWellBut, OpensOr}
use Rattle.gateway_outside.specs.SpoolFiles.{Disks, OnlyRead}
use Rattle.gateway_outside.specs.declared.failures.Failure.{Failure}
use Rattle.gateway_outside.specs.declared.faults.Fault.TheVariants.{Io}
use Rattle.gateway_outside.specs.declared.openings.Unopened.{Unopened}
use Rattle.gateway_format.specs.Reports.{raised_line}

-- A LATER NEXT NUMBER OF A DISK and its answer: what `spool_image::raise` promises of them
pub record Raises {D : Type 0} (disk : Ghosts D) (d d' : D) (number : ℕ) (result : Result ℕ RaiseError) : Type 0 where
  pub size : disk.size d' ≡ disk.size d
  pub honest : disk.honest d ↔ disk.honest d'
  pub counts : Counts (result ≡ Err (Open (Stop DiskFault))) (disk.failures d) (disk.failures d')
  pub too_large : latest < number → (d' ≡ d) × (result ≡ Err TooLarge)
  pub raises : disk.honest d → number ≤ latest
      → OfView (disk.size d) (disk.current d) (λ v. IfErr result IsStopOfRaise)
  pub valid : disk.honest d
      → IfOk result (RaisedFrom (disk.size d) number (disk.current d) (disk.current d') (disk.unsynced d'))
  pub refused : disk.honest d → IfErr result (RaiseRefusedFor (disk.size d) number (disk.current d))
  pub not_a_spool : disk.honest d → number ≤ latest → IsNoSpool (disk.size d) (disk.current d)
      → RefusesRaiseAs result NotASpool
  pub version : disk.honest d → number ≤ latest → HasOtherVersion (disk.size d) (disk.current d)
      → RefusesRaiseAs result Version
  pub damaged : disk.honest d → number ≤ latest → IsDamaged (disk.size d) (disk.current d)
      → RefusesRaiseAs result Damaged
  pub unwritten : disk.honest d → (NeedsReplay (disk.size d) (disk.current d) → ⊥)
      → IfErr result (λ e. (e ≡ Open (Stop DiskFault) → ⊥)
      → Lasts disk d d' (IsImage (disk.current d) (disk.unsynced d)))
  pub same : disk.honest d → (NeedsReplay (disk.size d) (disk.current d) → ⊥)
      → IfErr result (λ e. (e ≡ Open (Stop DiskFault) → ⊥)
      → Preserves (disk.current d) (disk.current d') (disk.unsynced d) (disk.unsynced d'))
  pub lasts : disk.honest d → (v : View) → IsValid v → IsViewOf (disk.current d) v
      → PAGE * all_pages v.blocks ≤ disk.size d → Lasts disk d d' (λ image.
      IsImage (disk.current d) (disk.unsynced d) image ⊎ IsViewOf image v
      ⊎ (MayRaise result × (v.next < number) × IsViewOf image (with_next v number)))
  pub crash : (n : ℕ) (m : Store) → IsSpool disk d n m → Lasts disk d d' (LeftOrRaised disk d n number m result)
  pub shows : (n : ℕ) (m : Store) → IsSpool disk d n m
      → IfOk result (λ next. (next ≡ max m.next number) × AllShow disk d' n (raised m next))

-- what is answered for that, before anything is printed
abbrev pub FailsAs : Result ℕ RaiseError → Result ℕ Failure → Type 0
FailsAs (Ok next) (Ok answer) = answer ≡ next
FailsAs (Err e) (Err failure) = fault_in failure ≡ raise_fault e
FailsAs (Ok next) (Err failure) = ⊥
FailsAs (Err e) (Ok answer) = ⊥

-- what is answered and printed for that
abbrev pub AnswersRaise : {T : Type 0} → Option (List ℕ) → Option (List ℕ) → Result T Failure → Result ℕ RaiseError
    → Type 0
AnswersRaise before after result (Ok next) =
    EndsWellBut result Io × OnOk result (Appends before after (raised_line next))
AnswersRaise before after result (Err e) =
    IsErrAnd result (λ failure. fault_in failure ≡ raise_fault e) × (after ≡ before)

-- THE SPOOL IN A FILE WAS RAISED, this is so of the answer, and then it was at most looked at
pub record RaisedIn {D : Type 0} (disk : Ghosts D) (d : D) (number : ℕ) (Answers : Result ℕ RaiseError → Type 0)
    (d' : D) : Type 0
  where
    pub now : D
    pub answer : Result ℕ RaiseError
    pub raises : Raises disk d now number answer
    pub answers : Answers answer
    pub reads : OnlyRead disk now d'

-- WHAT THE COMMAND PROMISES of the file at a path
abbrev pub RaisesAt : {T D : Type 0} → Ghosts D → (Disks D → Type 0) → (Disks D → Type 0) → List Unopened
    → List Unopened → List ℕ → Option (List ℕ) → Option (List ℕ) → Result T Failure → ℕ → Type 0
RaisesAt disk holds holds' shut shut' path before after result number =
    OpensOr holds holds' shut shut' path before after result
    (λ d d'. RaisedIn disk d number (AnswersRaise before after result) d')
