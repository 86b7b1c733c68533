-- What `upgrade` makes of the spool in a file.
use Rattle.std.specs.Prelude.{◌≡◌, ◌⊎◌, ◌↔◌, ◌≤◌, ◌*◌, ℕ, List, Option, Result, Ok, Err, IfErr, IsErrAnd, OnOk}
use Rattle.std.specs.Io.KnownBytes.{Appends}
use Rattle.common.specs.declared.stop.Stop.TheVariants.{DiskFault}
use Rattle.spool_disk.specs.Disk.{Counts, IsImage, Preserves}
use Rattle.spool_disk.specs.Views.{Lasts}
use Rattle.spool_disk.specs.declared.disk.Disk.{Ghosts}
use Rattle.spool_journal.specs.Image.{all_pages}
use Rattle.spool_journal.specs.declared.TheConstants.{PAGE}
use Rattle.upload_rules.specs.Store.{Store}
use Rattle.spool_pages.specs.Changes as changes
use Rattle.spool_pages.specs.Rests.{Rests}
use Rattle.spool_pages.specs.View.{View, IsViewOf}
use Rattle.spool_catalog.specs.declared.error.OpenFault.TheVariants.{Damaged, NotASpool, Stop, Version}
use Rattle.spool_catalog.specs.Shows.{IsValid}
use Rattle.spool_load.specs.Reads.{NeedsReplay}
use Rattle.spool_load.specs.Refusals.{HasOtherVersion, IsNoSpool}
use Rattle.spool_image.specs.LeftOnly.{AllShow, IsSpool, LeftOrShows}
use Rattle.spool_image.specs.Upgrade.{IsAlreadyNew, IsOldDamaged, RefusesUpgradeAs, UpgradedFrom, UpgradeRefusedFor}
use Rattle.spool_image.specs.Upgrade.{UpgradesOf}
use Rattle.spool_image.specs.declared.error.UpgradeError.{UpgradeError}
use Rattle.spool_image.specs.declared.error.UpgradeError.TheVariants.{Open, AlreadyNew}
use Rattle.gateway_outside.specs.Failures.{fault_in}
use Rattle.gateway_outside.specs.Faults.{upgrade_fault}
use Rattle.gateway_outside.specs.Openings.{EndsWellBut, OpensOr}
use Rattle.gateway_outside.specs.SpoolFiles.{Disks, OnlyRead}
use Rattle.gateway_outside.specs.declared.failures.Failure.{Failure}
use Rattle.gateway_outside.specs.declared.faults.Fault.TheVariants.{Io}
use Rattle.gateway_outside.specs.declared.openings.Unopened.{Unopened}
use Rattle.gateway_format.specs.Reports.{upgraded_line}

-- AN UPGRADE OF A DISK and its answer: what `spool_image::upgrade` promises of them
pub record Upgrades {T D : Type 0} (disk : Ghosts D) (d d' : D) (result : Result T UpgradeError) : Type 0 where
  pub size : disk.size d' ≡ disk.size d
  pub honest : disk.honest d ↔ disk.honest d'
  pub counts : Counts (result ≡ Err (Open (Stop DiskFault))) (disk.failures d) (disk.failures d')
  pub upgraded : disk.honest d → (v : View) → IsValid v → IsViewOf (disk.current d) v
      → PAGE * all_pages v.blocks ≤ disk.size d → UpgradesOf v.version result
  pub valid : disk.honest d
      → OnOk result (UpgradedFrom (disk.size d) (disk.current d) (disk.current d') (disk.unsynced d'))
  pub refused : disk.honest d → IfErr result (UpgradeRefusedFor (disk.size d) (disk.current d))
  pub not_a_spool : disk.honest d → IsNoSpool (disk.size d) (disk.current d) → RefusesUpgradeAs result (Open NotASpool)
  pub version : disk.honest d → HasOtherVersion (disk.size d) (disk.current d) → RefusesUpgradeAs result (Open Version)
  pub already_new : disk.honest d → IsAlreadyNew (disk.size d) (disk.current d) → RefusesUpgradeAs result AlreadyNew
  pub damaged : disk.honest d → IsOldDamaged (disk.size d) (disk.current d) → RefusesUpgradeAs result (Open Damaged)
  pub stays : disk.honest d → (v : View) → IsValid v → IsViewOf (disk.current d) v
      → PAGE * all_pages v.blocks ≤ disk.size d
      → IfErr result (λ e. (e ≡ Open (Stop DiskFault) → ⊥) → Rests v (disk.current d') (disk.unsynced d'))
  pub unwritten : disk.honest d → (NeedsReplay (disk.size d) (disk.current d) → ⊥)
      → IfErr result (λ e. (e ≡ Open (Stop DiskFault) → ⊥)
      → Lasts disk d d' (IsImage (disk.current d) (disk.unsynced d)))
  pub same : disk.honest d → (NeedsReplay (disk.size d) (disk.current d) → ⊥)
      → IfErr result (λ e. (e ≡ Open (Stop DiskFault) → ⊥)
      → Preserves (disk.current d) (disk.current d') (disk.unsynced d) (disk.unsynced d'))
  pub lasts : disk.honest d → (v : View) → IsValid v → IsViewOf (disk.current d) v
      → PAGE * all_pages v.blocks ≤ disk.size d → Lasts disk d d' (λ image.
      IsImage (disk.current d) (disk.unsynced d) image ⊎ IsViewOf image v ⊎ IsViewOf image (changes.upgraded v))
  pub crash : (n : ℕ) (m : Store) → IsSpool disk d n m → Lasts disk d d' (LeftOrShows disk d n m)
  pub shows : (n : ℕ) (m : Store) → IsSpool disk d n m → (result ≡ Err (Open (Stop DiskFault)) → ⊥)
      → AllShow disk d' n m

-- what is answered and printed for that
abbrev pub AnswersUpgrade : {T U : Type 0} → Result T UpgradeError → Option (List ℕ) → Option (List ℕ)
    → Result U Failure → Type 0
AnswersUpgrade (Ok t) before after result = EndsWellBut result Io × OnOk result (Appends before after upgraded_line)
AnswersUpgrade (Err e) before after result =
    IsErrAnd result (λ failure. fault_in failure ≡ upgrade_fault e) × (after ≡ before)

-- THE SPOOL IN A FILE WAS UPGRADED, and then at most looked at
pub record UpgradedIn {T D : Type 0} (disk : Ghosts D) (d : D) (before after : Option (List ℕ))
    (result : Result T Failure) (d' : D) : Type 0
  where
    pub now : D
    pub answer : Result (Unit {0}) UpgradeError
    pub upgrades : Upgrades disk d now answer
    pub answers : AnswersUpgrade answer before after result
    pub reads : OnlyRead disk now d'

-- WHAT THE COMMAND PROMISES of the file at a path
abbrev pub UpgradesAt : {T D : Type 0} → Ghosts D → (Disks D → Type 0) → (Disks D → Type 0) → List Unopened
    → List Unopened → List ℕ → Option (List ℕ) → Option (List ℕ) → Result T Failure → Type 0
UpgradesAt disk holds holds' shut shut' path before after result =
    OpensOr holds holds' shut shut' path before after result (λ d d'. UpgradedIn disk d before after result d')
