-- The upgrade to version 2: its effect and its errors.
use Rattle.std.specs.Prelude.{◌≡◌, ◌⊎◌, ℕ, ◌*◌, ◌≤◌, List, length, MatchResult, Result, Ok, Err}
use Rattle.common.specs.declared.stop.Stop.TheVariants.{NoMemory, DiskFault}
use Rattle.spool_journal.specs.declared.TheConstants.{PAGE}
use Rattle.spool_journal.specs.Image.{all_pages, journal_pages, laid, overlaid, InArea}
use Rattle.spool_journal.specs.Phases.{Settled}
use Rattle.spool_catalog.specs.Shows.{IsValid}
use Rattle.spool_catalog.specs.declared.error.OpenFault.TheVariants.{Damaged, Stop}
use Rattle.spool_load.specs.Reads.{EncodesBlocks}
use Rattle.spool_load.specs.Loaded.{ReadsView}
use Rattle.spool_load.specs.Refusals.{HasJournal, IsDamaged, NamesVersion, ReadsDamage, RefusedBy}
use Rattle.spool_pages.specs.Changes.{Changes, upgraded}
use Rattle.spool_pages.specs.Rests.{Rests}
use Rattle.spool_pages.specs.View.{View, IsViewOf}
use Rattle.spool_pages.specs.declared.version.Version.{Version}
use Rattle.spool_pages.specs.declared.version.Version.TheVariants.{One, Two}
use Rattle.spool_image.specs.declared.error.UpgradeError.{UpgradeError}
use Rattle.spool_image.specs.declared.error.UpgradeError.TheVariants.{Open, AlreadyNew}

-- One commit of 257 pages, which give this view in version 2. Laid over the earlier bytes they are what a read gives
-- now outside the gate and the journal, and all is synced.
pub record CommitOfUpgrade (view : View) (bytes current : ℕ → ℕ) (unsynced : ℕ → Type 0) : Type 0 where
  pub pages : List (ℕ × List ℕ)
  pub count : length pages ≡ 257
  pub area : InArea (journal_pages view.blocks) pages
  pub changes : Changes pages view (upgraded view)
  pub settled : Settled (journal_pages view.blocks) (laid pages bytes) current unsynced

-- A read gave a valid view of version 1, and each crash image now has it in version 2, by one commit.
pub record UpgradedFrom (size : ℕ) (before current : ℕ → ℕ) (unsynced : ℕ → Type 0) : Type 0 where
  pub view : View
  pub valid : IsValid view
  pub old : view.version ≡ One
  pub was : IsViewOf before view
  pub room : PAGE * all_pages view.blocks ≤ size
  pub rests : Rests (upgraded view) current unsynced
  pub commit : CommitOfUpgrade view (overlaid before) current unsynced

-- The errors.

-- A spool with a valid journal and version 2.
pub record ReadsNew (size : ℕ) (before after : ℕ → ℕ) : Type 0 where
  pub blocks : ℕ
  pub encodes : EncodesBlocks size before blocks
  pub journal : HasJournal blocks before
  pub new : NamesVersion blocks after Two

-- The reason for an error, by what the reads of the opening gave. A damaged spool doesn't have version 2.
abbrev pub UpgradeRefusedBy : ℕ → (ℕ → ℕ) → (ℕ → ℕ) → UpgradeError → Type 0
UpgradeRefusedBy size before after AlreadyNew = ReadsNew size before after
UpgradeRefusedBy size before after (Open Damaged) =
    ReadsDamage size before after × (ReadsNew size before after → ⊥)
UpgradeRefusedBy size before after (Open fault) = RefusedBy size before after fault

-- An upgrade's answer by what they gave: a valid view of version 1 is upgraded, and each error has its reason.
abbrev pub UpgradesBy : {T : Type 0} → ℕ → Result T UpgradeError → (ℕ → ℕ) → (ℕ → ℕ) → Type 0
UpgradesBy size result before after =
    MatchResult result (λ done. ReadsView size before after (λ v. v.version ≡ One)) (UpgradeRefusedBy size before after)

-- The same of what a read gives before it.

abbrev pub IsAlreadyNew : ℕ → (ℕ → ℕ) → Type 0
IsAlreadyNew size current = ReadsNew size current (overlaid current)

abbrev pub IsOldDamaged : ℕ → (ℕ → ℕ) → Type 0
IsOldDamaged size current = IsDamaged size current × (IsAlreadyNew size current → ⊥)

abbrev pub UpgradeRefusedFor : ℕ → (ℕ → ℕ) → UpgradeError → Type 0
UpgradeRefusedFor size current = UpgradeRefusedBy size current (overlaid current)

-- It is refused with this error, or when out of memory, or at a disk fault.
abbrev pub RefusesUpgradeAs : {T : Type 0} → Result T UpgradeError → UpgradeError → Type 0
RefusesUpgradeAs (Ok t) error = ⊥
RefusesUpgradeAs (Err e) error = (e ≡ error) ⊎ (e ≡ Open (Stop NoMemory)) ⊎ (e ≡ Open (Stop DiskFault))

-- Version 1 is upgraded and version 2 refused, unless memory or the disk refuses.
abbrev pub UpgradesOf : {T : Type 0} → Version → Result T UpgradeError → Type 0
UpgradesOf version (Ok t) = version ≡ One
UpgradesOf version (Err e) =
    ((version ≡ Two) × (e ≡ AlreadyNew)) ⊎ (e ≡ Open (Stop NoMemory)) ⊎ (e ≡ Open (Stop DiskFault))

-- It is refused when out of memory or at a disk fault.
abbrev pub IsLateRefusal : UpgradeError → Type 0
IsLateRefusal e = (e ≡ Open (Stop NoMemory)) ⊎ (e ≡ Open (Stop DiskFault))
