-- A later next number: its effect and its errors.
use Rattle.std.specs.Prelude.{◌≡◌, ◌⊎◌, ℕ, ◌*◌, ◌<◌, ◌≤◌, ◌^◌, max, List, length, Result, Ok, Err}
use Rattle.common.specs.declared.stop.Stop.TheVariants.{NoMemory, DiskFault}
use Rattle.spool_journal.specs.declared.TheConstants.{PAGE}
use Rattle.spool_disk.specs.declared.disk.Disk.{Ghosts}
use Rattle.spool_journal.specs.Image.{all_pages, journal_pages, laid, overlaid, InArea}
use Rattle.spool_journal.specs.Phases.{Settled}
use Rattle.upload_rules.specs.Store.{Store}
use Rattle.spool_catalog.specs.Raising.{raised}
use Rattle.spool_catalog.specs.Shows.{ImageShows, IsValid}
use Rattle.spool_catalog.specs.declared.error.OpenFault.{OpenFault}
use Rattle.spool_catalog.specs.declared.error.OpenFault.TheVariants.{Stop}
use Rattle.spool_load.specs.Loaded.{ReadsView}
use Rattle.spool_load.specs.Refusals.{RefusedBy}
use Rattle.spool_pages.specs.Changes.{Changes, with_next}
use Rattle.spool_pages.specs.Rests.{Rests}
use Rattle.spool_pages.specs.View.{View, IsViewOf}
use Rattle.spool_image.specs.declared.error.RaiseError.{RaiseError}
use Rattle.spool_image.specs.declared.error.RaiseError.TheVariants.{Open, TooLarge}
use Rattle.spool_image.specs.LeftOnly.{LeftOrShows}

-- The latest next number that a spool is given: of the 10^18 numbers 10^15 are left.
abbrev pub latest : ℕ
latest = 999 * 10 ^ 15

-- One commit of one page gave this view that next number. Laid over the earlier bytes the page is what a read gives now
-- outside the gate and the journal, and all is synced.
pub record CommitOfRaise (view : View) (next : ℕ) (bytes current : ℕ → ℕ) (unsynced : ℕ → Type 0) : Type 0 where
  pub pages : List (ℕ × List ℕ)
  pub one : length pages ≡ 1
  pub area : InArea (journal_pages view.blocks) pages
  pub changes : Changes pages view (with_next view next)
  pub settled : Settled (journal_pages view.blocks) (laid pages bytes) current unsynced

-- Either the view's next number is this one or a later one and nothing was committed, or one commit gave it this one.
abbrev pub CommitsRaise : View → ℕ → (bytes current : ℕ → ℕ) → (ℕ → Type 0) → Type 0
CommitsRaise view number bytes current unsynced =
    ((number ≤ view.next) × Settled (journal_pages view.blocks) bytes current unsynced)
    ⊎ ((view.next < number) × CommitOfRaise view number bytes current unsynced)

-- A read gave a valid view, and each crash image now has it with the later of its own next number and this one, which
-- is the answer.
pub record RaisedFrom (size number : ℕ) (before current : ℕ → ℕ) (unsynced : ℕ → Type 0) (next : ℕ) : Type 0 where
  pub view : View
  pub valid : IsValid view
  pub was : IsViewOf before view
  pub room : PAGE * all_pages view.blocks ≤ size
  pub later : next ≡ max view.next number
  pub rests : Rests (with_next view next) current unsynced
  pub commit : CommitsRaise view number (overlaid before) current unsynced

-- A crash may leave the later number where it was given, and where the disk failed.
abbrev pub MayRaise : Result ℕ RaiseError → Type 0
MayRaise (Ok next) = Unit {0}
MayRaise (Err (Open (Stop DiskFault))) = Unit {0}
MayRaise (Err e) = ⊥

-- A crash image: one of before, or one that shows the same, or the same with the later number.
pub record ShowsRaised (n number : ℕ) (m : Store) (result : Result ℕ RaiseError) (image : ℕ → ℕ) : Type 0 where
  pub may : MayRaise result
  pub later : m.next < number
  pub shows : ImageShows n image (raised m number)

abbrev pub LeftOrRaised : {D : Type 0} → Ghosts D → D → ℕ → ℕ → Store → Result ℕ RaiseError → (ℕ → ℕ) → Type 0
LeftOrRaised disk before n number m result image =
    LeftOrShows disk before n m image ⊎ ShowsRaised n number m result image

-- The errors.

-- The reason for an error, by what the reads of the opening gave.
abbrev pub RaiseRefusedBy : ℕ → ℕ → (ℕ → ℕ) → (ℕ → ℕ) → RaiseError → Type 0
RaiseRefusedBy size number before after TooLarge = latest < number
RaiseRefusedBy size number before after (Open fault) = RefusedBy size before after fault

-- The answer by what they gave: that of a valid view is the later of the two numbers, and each error has its reason.
abbrev pub RaisesBy : ℕ → ℕ → Result ℕ RaiseError → (ℕ → ℕ) → (ℕ → ℕ) → Type 0
RaisesBy size number (Ok next) before after = ReadsView size before after (λ v. next ≡ max v.next number)
RaisesBy size number (Err e) before after = RaiseRefusedBy size number before after e

-- The same of what a read gives before it.
abbrev pub RaiseRefusedFor : ℕ → ℕ → (ℕ → ℕ) → RaiseError → Type 0
RaiseRefusedFor size number current = RaiseRefusedBy size number current (overlaid current)

-- It is refused when out of memory or at a disk fault.
abbrev pub IsStopOfRaise : RaiseError → Type 0
IsStopOfRaise e = (e ≡ Open (Stop NoMemory)) ⊎ (e ≡ Open (Stop DiskFault))

-- It is refused with this error, or when out of memory, or at a disk fault.
abbrev pub RefusesRaiseAs : Result ℕ RaiseError → OpenFault → Type 0
RefusesRaiseAs (Ok next) fault = ⊥
RefusesRaiseAs (Err e) fault = (e ≡ Open fault) ⊎ IsStopOfRaise e
